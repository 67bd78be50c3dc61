-- The lowest alternative whose first place passes a test is the place, counted from 1, of the first that does in the list of first places.
use mathlib.Core.Path.{◌≡◌, refl, sym, ap, ◌∙◌}
use mathlib.Core.Bool.{Bool, true, false, cond}
use mathlib.Core.Option.{Option, some}
use mathlib.Core.List.{List, [], ◌∷◌}
use Prim.Native.Nat.{ℕ, suc, ◌+◌, ◌<◌}
use native.Mathlib.Omega.{arith}
use native.Mathlib.Numerals.{add-one}
use lib.ListN.{length, get_or}
use Rattle.std.specs.Prelude as prelude
use Rattle.std.specs.List.{position_from}
use Rattle.base.specs.Search.{lowest_from}
use Rattle.base.proofs.Booleans.{clash}
use Rattle.base.proofs.Lists.{get-get_or}
use Rattle.grammar.specs.Grammar.{alternatives, first}
use Rattle.grammar.specs.inside.Tables.{grammar_in}
use Rattle.derivation.specs.inside.Ready.{Ready}
use Rattle.derivation.proofs.ReadyLaws.{ready-first}
use Rattle.machine.specs.inside.Choice.{ends_in, or_zero, Numbered, lowest_in}

-- an alternative that was found as a number, 0 for none
abbrev number_of : prelude.Option ℕ → ℕ
number_of prelude.None = 0
number_of (prelude.Some b) = b

-- the lowest of numbers that stand for the members of a list
module _ (test : ℕ → Bool) (P : ℕ → Bool) where
  pub lowest-place : (l : List ℕ) (i : ℕ) → ((k : ℕ) → k < length l → test (suc (i + k)) ≡ P (get_or l k 0))
      → number_of (prelude.option_map (λ k. k + 1) (position_from P i l)) ≡ or_zero (lowest_from test (suc i) (length l))
  unfolding lowest_from
  lowest-place [] i h = refl
  lowest-place (f ∷ l) i h =
      go (P f) (test (suc i)) (let e : suc (i + 0) ≡ suc i = omega arith in ap test (sym e) ∙ h 0 (omega arith))
      (lowest-place l (suc i) (λ k n. let e : suc (suc i + k) ≡ suc (i + suc k) = omega arith in ap test e ∙ h (suc k) (omega arith)))
    where
      placed : Bool → ℕ
      placed b = number_of (prelude.option_map (λ k. k + 1) (cond b (prelude.Some i) (position_from P (i + 1) l)))

      later : ℕ
      later = or_zero (lowest_from test (suc (suc i)) (length l))

      go : (b c : Bool) → c ≡ b → number_of (prelude.option_map (λ k. k + 1) (position_from P (suc i) l)) ≡ later
          → placed b ≡ or_zero (elim c as (λ _. Option ℕ) [ true ↦ some (suc i) | false ↦ lowest_from test (suc (suc i)) (length l) ])
      go true true e x = add-one i
      go false false e x = rw add-one x
      go true false e x = clash (cc)
      go false true e x = clash (cc)

pub counted : (o : prelude.Option ℕ) {n : ℕ} → number_of (prelude.option_map (λ k. k + 1) o) ≡ n
    → Numbered (prelude.option_map (λ k. k + 1) o) (λ r. r ≡ n)
counted prelude.None e = e
counted (prelude.Some k) e = (λ z. omega arith, e)

pub placed-lowest : (t ws : List ℕ) (a i : ℕ) (s : List ℕ) → (P : ℕ → Bool)
    → ((f : ℕ) → P f ≡ ends_in (grammar_in t).size ws i s (some f))
    → Numbered (prelude.option_map (λ k. k + 1) (position_from P 0 (alternatives (grammar_in t) a))) (λ r. r ≡ lowest_in t ws a i s)
unfolding lowest_in ends_in lowest_from
placed-lowest t ws a i s P h =
    let l : List ℕ = alternatives (grammar_in t) a in
    counted (position_from P 0 l) (lowest-place (λ b. ends_in (grammar_in t).size ws i s (first (grammar_in t) a b)) P l 0
    (λ k n. let e : 0 + k ≡ k = omega arith in
    rw e (ap (λ (o : Option ℕ). ends_in (grammar_in t).size ws i s o) (get-get_or l k 0 n) ∙ sym (h (get_or l k 0)))))

-- the first places are places of the grammar
pub first-inside : (t : List ℕ) → Ready t → (a k v : ℕ) → k < length (alternatives (grammar_in t) a) → v ≡ get_or (alternatives (grammar_in t) a) k v
    → v < (grammar_in t).size
first-inside t h a k v l e = ready-first t h a (suc k) v (get-get_or (alternatives (grammar_in t) a) k v l ∙ ap some (sym e))

-- ---- what is said of an alternative as a number
pub numbered-map : (o : prelude.Option ℕ) {P Q : ℕ → Type 0} → ((r : ℕ) → P r → Q r) → Numbered o P → Numbered o Q
numbered-map prelude.None h x = h 0 x
numbered-map (prelude.Some b) h x = (x.0, h b x.1)

pub numbered_none : {o : prelude.Option ℕ} (P : ℕ → Type 0) → Numbered o P → o ≡ prelude.None → P 0
numbered_none {o} P x e = rw e at x

pub numbered_some : {o : prelude.Option ℕ} (P : ℕ → Type 0) {b : ℕ} → Numbered o P → o ≡ prelude.Some b → ¬ (b ≡ 0) × P b
numbered_some {o} P x e = rw e at x
