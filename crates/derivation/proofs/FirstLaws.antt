-- The first places of productions that ready tables say: where they stand, and that they are places of the grammar.
use mathlib.Core.Path.{◌≡◌, refl}
use mathlib.Core.Option.{some}
use mathlib.Core.List.{List, [], ◌∷◌}
use Prim.Native.Nat.{ℕ, zero, suc, ◌+◌, ◌-◌, ◌≤◌, ◌<◌}
use native.Mathlib.Numerals.{add-one}
use native.Mathlib.Omega.{arith}
use lib.ListN.{length, get_or, get_elem?}
use lib.Seq.{slice}
use Rattle.base.proofs.Lists.{slice_get}
use Rattle.grammar.specs.Grammar.{alternatives, first}
use Rattle.grammar.specs.inside.Tables.{grammar_in, nonterminals_in, rule_at}
use Rattle.grammar.proofs.WordLaws.{alternatives-in}
use Rattle.derivation.specs.inside.Ready.{Ready}
use Rattle.derivation.proofs.ReadyLaws.{ready-first}

pub get-some : (l : List ℕ) (k : ℕ) → k < length l → get_elem? l k ≡ some (get_or l k 0)
get-some [] k h = absurd (omega arith)
get-some (x ∷ l) zero h = refl
get-some (x ∷ l) (suc k) h = get-some l k (omega arith)

module _ (t : List ℕ) (ready : Ready t) (a : ℕ) (h : a < nonterminals_in t) {s e : ℕ} (p : s ≡ rule_at t a) (q : e ≡ rule_at t (a + 1)) where
  pub rule-within : e ≤ length t
  rule-within = rw (q, add-one) (omega (arith, ready.fits.long, ready.fits.within a h))

  -- the productions from s up to e are those of a
  pub rules-are : alternatives (grammar_in t) a ≡ slice s e t
  rules-are = rw (p, q, add-one) (alternatives-in t a h)

  -- they are its alternatives in order
  pub first-at : (k : ℕ) {f : ℕ} → s ≤ k → k < e → f ≡ get_or t k 0 → first (grammar_in t) a (suc (k - s)) ≡ some f
  first-at k m l d = let z : s + (k - s) ≡ k = omega arith in rw (rules-are, d) (rw z at (slice_get t e (k - s) s (omega arith) rule-within))

  -- a first place is a place of the grammar
  pub first-in : (k : ℕ) {f : ℕ} → s ≤ k → k < e → f ≡ get_or t k 0 → f < (grammar_in t).size
  first-in k {f} m l d = ready-first t ready a (suc (k - s)) f (first-at k m l d)

-- ---- the first places fs of nonterminal a, as a slice
module _ (t : List ℕ) (ready : Ready t) (a : ℕ) {fs : List ℕ} (e : fs ≡ alternatives (grammar_in t) a) (k : ℕ) {f : ℕ} (m : k < length fs)
    (d : f ≡ get_or fs k 0) where
  -- they are its alternatives in order
  pub alternative-at : first (grammar_in t) a (suc k) ≡ some f
  alternative-at = rw (← e, d) (get-some fs k m)

  -- a first place is a place of the grammar
  pub place-of : f < (grammar_in t).size
  place-of = ready-first t ready a (suc k) f alternative-at
