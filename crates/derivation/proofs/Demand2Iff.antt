-- An answer that is one of the three that a note may get is what demand 2 says, both ways: no two of the three have the same number, a note has at most
-- one chosen derivation, and one that has none is no sentence.
use mathlib.Core.Path.{◌≡◌, refl, sym, ap, ◌∙◌}
use mathlib.Core.Logic.{inl, inr}
use mathlib.Core.List.{List, ◌++◌}
use Prim.Native.Nat.{ℕ, ◌-◌, ◌≤◌, ◌<◌}
use native.Mathlib.Omega.{arith}
use lib.ListN.{length, replicate, length-append, length-replicate}
use Rattle.base.proofs.Booleans.{clash}
use Rattle.grammar.specs.Derivation.{Syntax}
use Rattle.derivation.specs.Viable.{Sentence, WrongAt}
use Rattle.derivation.specs.Plain.{Answer, accept, clear}
use Rattle.derivation.specs.Demand2.{ChosenFor, FitsRow, ExceedsRow, Cleared, RightAnswer}
use Rattle.derivation.proofs.ChosenLaws.{chosen→leftmost, chosen-unique}

-- the chosen derivation, where it fits the row; 14 where the note is a sentence and it does not; 10 at the place where the note goes wrong
pub data OneOfThree (g : Syntax) (w row : List ℕ) : Answer → Type 0 where
  fits : (d : List ℕ) → ChosenFor g w d → length d ≤ length row → OneOfThree g w row (accept d row)
  exceeds : (d : List ℕ) → ChosenFor g w d → length row < length d → OneOfThree g w row (clear 14 0 row)
  wrong : (k : ℕ) → WrongAt g w k → OneOfThree g w row (clear 10 k row)

-- a note that has a chosen derivation is a sentence
is-sentence : {g : Syntax} {w d : List ℕ} → ChosenFor g w d → Sentence g w
is-sentence {d = d} c = (d, chosen→leftmost c)

-- it either fits the row or does not
never_both : {g : Syntax} {w : List ℕ} (row : List ℕ) → FitsRow g w row → ¬ ExceedsRow g w row
never_both row (s, (d, c, l)) (s', (d', c', l')) = let z = chosen-unique c d' c' in omega (arith, ap length z)

-- a row that is filled up with zeros is as long as it was
filled : (d row : List ℕ) → length d ≤ length row → length (d ++ replicate (length row - length d) 0) ≡ length row
filled d row l = length-append d (replicate (length row - length d) 0) ∙ omega (arith, length-replicate {A = ℕ} (length row - length d) 0)

is-cleared : (n k : ℕ) (row : List ℕ) → Cleared row (clear n k row)
is-cleared n k row = record { count = refl; zeros = refl }

module _ {g : Syntax} {w row : List ℕ} where
  pub three-right : {x : Answer} → OneOfThree g w row x → RightAnswer g w row x
  three-right (fits d c l) =
      let f : FitsRow g w row = (is-sentence c, (d, c, l)) in
      record {
        zero = (λ e. f, λ h. refl);
        ten = (λ e. clash (omega arith), λ n. absurd (n (is-sentence c)));
        fourteen = (λ e. clash (omega arith), λ h. absurd (never_both row f h));
        one_of = inl refl;
        accepted = λ e. record {
          derivation = d;
          chosen = c;
          only = λ d' c'. sym (chosen-unique c d' c');
          leftmost = chosen→leftmost c;
          place = refl;
          count = refl;
          entries = refl;
          long = filled d row l;
        };
        wrong = λ e. clash (omega arith);
        short = λ e. clash (omega arith);
      }
  three-right (exceeds d c l) =
      let f : ExceedsRow g w row = (is-sentence c, (d, c, l)) in
      record {
        zero = (λ e. clash (omega arith), λ h. absurd (never_both row h f));
        ten = (λ e. clash (omega arith), λ n. absurd (n (is-sentence c)));
        fourteen = (λ e. f, λ h. refl);
        one_of = inr (inr refl);
        accepted = λ e. clash (omega arith);
        wrong = λ e. clash (omega arith);
        short = λ e. (refl, is-cleared 14 0 row);
      }
  three-right (wrong k h) = record {
    zero = (λ e. clash (omega arith), λ f. absurd (h.no-sentence f.0));
    ten = (λ e. h.no-sentence, λ n. refl);
    fourteen = (λ e. clash (omega arith), λ f. absurd (h.no-sentence f.0));
    one_of = inr (inl refl);
    accepted = λ e. clash (omega arith);
    wrong = λ e. (h, is-cleared 10 k row);
    short = λ e. clash (omega arith);
  }
