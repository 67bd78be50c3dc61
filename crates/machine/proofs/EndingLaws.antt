-- How a reading ends: the sentence test, and the answer for each way in which the machine stops.
use mathlib.Core.Path.{◌≡◌, sym, ap, ◌∙◌}
use mathlib.Core.Bool.{Bool, true, false, not}
use mathlib.Core.Option.{Option}
use mathlib.Core.List.{List, [], ◌∷◌, ◌++◌}
use Prim.Native.Nat.{ℕ, zero, suc, ◌-◌, ◌≤◌}
use native.Mathlib.Omega.{arith}
use lib.Dec.{eqb}
use lib.ListN.{length, take, replicate}
use lib.Seq.{length-take-le}
use borrow.Author.Tests.{ne_eqb}
use Rattle.std.specs.Prelude as prelude
use Rattle.std.specs.Prelude.{Ok, Err}
use Rattle.base.proofs.Booleans.{clash, same}
use Rattle.base.proofs.Lists.{any_of-T, T-any_of}
use Rattle.base.specs.Search.{LowestIs, this, nothing}
use Rattle.grammar.specs.Limits.{end_place}
use Rattle.grammar.specs.Grammar.{Grammar, alternatives}
use Rattle.grammar.specs.inside.Tables.{grammar_in}
use Rattle.grammar.proofs.GrammarLaws.{first_pos}
use Rattle.positions.specs.inside.Positions.{empty_set, with_of}
use Rattle.positions.proofs.SetLaws.{Fit}
use Rattle.derivation.specs.Runs.{marked}
use Rattle.derivation.specs.Cells.{runs?}
use Rattle.derivation.specs.Machine as machine
use Rattle.derivation.specs.Runs.{Serves}
use Rattle.derivation.specs.Plain.{Answer, clear, sentence?, on_conclusion}
use Rattle.derivation.specs.ReachRounds.{wrong_place}
use Rattle.derivation.proofs.CellLaws.{runs-iff}
use Rattle.derivation.proofs.LowestLaws.{lowest-serves}
use Rattle.gate.specs.Reading.{answered}
use Rattle.gate.specs.declared.reading.ReadingRefusal.TheVariants
use Rattle.machine.specs.inside.Choice.{or_zero, Numbered, lowest_in}
use Rattle.reach.specs.inside.Passes.{Given}
use Rattle.machine.specs.inside.Ending.{outcome_in}
use Rattle.machine.specs.declared.ending.Conclusion.{Conclusion}
use Rattle.machine.proofs.ServingLaws.{lowest-is, serving-end}

-- ---- the sentence test: some alternative of the start symbol serves over the end place
asked-sentence : (g : Grammar) (w : List ℕ) → not (eqb (or_zero (machine.lowest g (marked w) (end_place ∷ []) 0 0)) 0) ≡ sentence? g w
unfolding sentence?
asked-sentence g w = go (machine.lowest g (marked w) (end_place ∷ []) 0 0) (lowest-serves g (marked w) (end_place ∷ []) 0 0)
  where
    reads : ℕ → Bool
    reads f = runs? g (marked w) (f ∷ end_place ∷ []) 0

    go : (o : Option ℕ) → LowestIs (Serves g (marked w) (end_place ∷ []) 0 0) o → not (eqb (or_zero o) 0) ≡ sentence? g w
    go o (nothing n) = same false (sentence? g w) (λ x. absurd x) (λ x.
        let (k, f, e, y) = any_of-T reads (alternatives g 0) x in
        absurd (n (suc k) (f, e, (runs-iff g (marked w) (f ∷ end_place ∷ []) 0).0 y)))
    go o (this zero x y) = let e = x.1 in clash (cc)
    go o (this (suc b) (f, e, x) y) = ap not (ne_eqb (suc b) 0 (λ z. omega arith)) ∙ same true (sentence? g w) (λ _.
        let (k, d) = first_pos g 0 (suc b) f e in
        T-any_of reads (alternatives g 0) k d ((runs-iff g (marked w) (f ∷ end_place ∷ []) 0).1 x)) (λ _. tt)

sentence-number : (t w ws : List ℕ) → Fit ws → Given t w ws → {e s : List ℕ} {r : ℕ} → e ≡ empty_set → s ≡ with_of e (length w) → r
    ≡ lowest_in t ws 0 0 s → not (eqb r 0) ≡ sentence? (grammar_in t) w
sentence-number t w ws fit x {e} {s} {r} p q c =
    let right = serving-end t x.ready w ws x.charted x.lent.short fit 0 (omega arith) in
    let z : r ≡ or_zero (machine.lowest (grammar_in t) (marked w) (end_place ∷ []) 0 0)
    = c ∙ (ap (lowest_in t ws 0 0) (q ∙ ap (λ (l : List ℕ). with_of l (length w)) p)
    ∙ lowest-is t x.ready w ws x.charted x.lent.short fit [] end_place 0 0 (with_of empty_set (length w)) (omega arith) right) in
    ap (λ (r : ℕ). not (eqb r 0)) z ∙ asked-sentence (grammar_in t) w

pub sentence-is : (t w ws : List ℕ) → Fit ws → Given t w ws → {e s : List ℕ} → e ≡ empty_set → s ≡ with_of e (length w)
    → (o : prelude.Option ℕ) → Numbered o (λ r. r ≡ lowest_in t ws 0 0 s) → prelude.is_some o ≡ sentence? (grammar_in t) w
sentence-is t w ws fit x p q prelude.None c = sentence-number t w ws fit x p q c
sentence-is t w ws fit x p q (prelude.Some b) c = ap not (sym (ne_eqb b 0 c.0)) ∙ sentence-number t w ws fit x p q c.1

-- ---- the answer for each outcome; a row that is cleared from `from` on
cleared : (row : List ℕ) {after : List ℕ} → after ≡ take 0 row ++ replicate (length row - 0) 0 → after ≡ replicate (length row) 0
cleared row e = let z : length row - 0 ≡ length row = omega arith in e ∙ ap (λ (n : ℕ). replicate n 0) z

pub end-accepted : (g : Grammar) (w row : List ℕ) (count : ℕ) {after : List ℕ} → count ≤ length row → after
    ≡ take count row ++ replicate (length row - count) 0
    → answered (Ok count) after ≡ on_conclusion g w row (machine.accepted (take count row))
unfolding on_conclusion
end-accepted g w row count {after} l e =
    let n : length (take count row) ≡ count = length-take-le count row l in
    rw (n, e)

pub end-clear : (row : List ℕ) (g : Grammar) (w : List ℕ) {at : ℕ} {after : List ℕ} → at ≡ wrong_place g w → after
    ≡ take 0 row ++ replicate (length row - 0) 0
    → answered (Err (TheVariants.NoSentence at)) after ≡ clear 10 (wrong_place g w) row
end-clear row g w e f = rw (e, cleared row f)

pub end-stuck : (g : Grammar) (w row : List ℕ) {x : Answer} → x ≡ clear 10 (wrong_place g w) row → x ≡ on_conclusion g w row machine.stuck
unfolding on_conclusion
end-stuck g w row e = e

-- 14: a sentence for which the row was full; 10 where it is none
pub end_short : (g : Grammar) (w row : List ℕ) {b : Bool} {after : List ℕ} → b ≡ sentence? g w → b ≡ true → after
    ≡ take 0 row ++ replicate (length row - 0) 0
    → answered (Err TheVariants.ShortRow) after ≡ on_conclusion g w row machine.full
unfolding on_conclusion
end_short g w row e t f = rw (← e, t, cleared row f)

pub end-wrong : (g : Grammar) (w row : List ℕ) {b : Bool} {x : Answer} → b ≡ sentence? g w → b ≡ false → x ≡ clear 10 (wrong_place g w) row
    → x ≡ on_conclusion g w row machine.full
unfolding on_conclusion
end-wrong g w row e t f = rw (← e, t) f

pub by-outcome : (g : Grammar) (w row : List ℕ) {o o' : Conclusion} {x : Answer} → o ≡ o' → x ≡ on_conclusion g w row (outcome_in o' row) → x
    ≡ on_conclusion g w row (outcome_in o row)
by-outcome g w row e h = rw e h

-- ---- only the row's length counts
pub outcome-length : (g : Grammar) (w row row' : List ℕ) (o : machine.Conclusion) → length row' ≡ length row → on_conclusion g w row' o
    ≡ on_conclusion g w row o
unfolding on_conclusion
outcome-length g w row row' (machine.accepted d) e = rw e
outcome-length g w row row' machine.stuck e = rw e
outcome-length g w row row' machine.full e = rw e
