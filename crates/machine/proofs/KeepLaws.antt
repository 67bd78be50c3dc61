-- The loop over the members of a set that keeps those from which a place leads into another set.
use mathlib.Core.Path.{◌≡◌, refl, sym, ap, ◌∙◌}
use mathlib.Core.Bool.{Bool, true, false, ◌&&◌, ◌||◌}
use mathlib.Core.Logic.{inl, inr}
use mathlib.Core.List.{List}
use Prim.Native.Nat.{ℕ, ◌+◌, ◌≤◌, ◌<◌}
use native.Mathlib.Omega.{arith}
use native.Mathlib.Decide.{dec_lt}
use lib.Dec.{eqb}
use lib.ListN.{length}
use borrow.Author.Tests.{eq-eqb, ne_eqb}
use Rattle.base.proofs.Bits.{same?}
use Rattle.base.proofs.Booleans.{or-none, or-true}
use Rattle.positions.specs.inside.Positions.{position_count, empty_set, member, with_of, meets_of, NextOf}
use Rattle.positions.specs.inside.Words.{set_at}
use Rattle.positions.proofs.SetLaws.{member-empty, member-with, length-with}
use Rattle.cells.specs.inside.Chart.{spot}
use Rattle.machine.specs.inside.Choice.{Leading}

-- m is the next member of `ends`, r what was kept before it
module _ (P : ℕ) (ws : List ℕ) (n : ℕ) (ends : List ℕ) (q : ℕ) (rest : List ℕ) where
  pub record Keeping (m : ℕ) (r : List ℕ) : Type 0 where
    pub below : (k : ℕ) → k ≤ n → k < m → member r k ≡ (member ends k && meets_of (set_at ws (spot P q k)) rest)
    pub none : (k : ℕ) → m ≤ k → k ≤ n → member r k ≡ false
    pub long : length r ≡ 5
    pub most : m ≤ position_count
    pub found : m < position_count → member ends m ≡ true

  skipped : (k : ℕ) → member ends k ≡ false → false ≡ (member ends k && meets_of (set_at ws (spot P q k)) rest)
  skipped k e = rw e

  pub keeping-begins : (m : ℕ) {r : List ℕ} → r ≡ empty_set → NextOf ends 0 m → Keeping m r
  keeping-begins m e h =
      record {
        below = λ k l j. (ap (λ (s : List ℕ). member s k) e ∙ member-empty k) ∙ skipped k (h.none k (omega arith) j);
        none = λ k l j. ap (λ (s : List ℕ). member s k) e ∙ member-empty k;
        long = ap length e;
        most = h.most;
        found = h.found;
      }

  pub keeping-ends : (m : ℕ) {r : List ℕ} → Keeping m r → n < m → Leading P ws n ends q rest r
  unfolding Leading
  keeping-ends m x l k j = x.below k j (omega arith)

  module _ (short : n < position_count) (m m' : ℕ) {r : List ℕ} (x : Keeping m r) (l : m ≤ n) (h : NextOf ends (m + 1) m') {s : List ℕ} {b : Bool}
      (c : s ≡ set_at ws (spot P q m)) (e : b ≡ meets_of s rest) where
    here : b ≡ (member ends m && meets_of (set_at ws (spot P q m)) rest)
    here = rw (x.found (omega arith), ← c) e

    -- the members before the next, of words that agree with r but perhaps at m
    next : (r' : List ℕ) → length r' ≡ 5 → ((k : ℕ) → k ≤ n → (k ≡ m → ⊥) → member r' k ≡ member r k) → member r' m ≡ b
        → Keeping m' r'
    next r' long same at =
        record {
          below = λ k i j. elim (same? k m) [
            | inl z ↦ rw z (at ∙ here)
            | inr z ↦ elim (dec_lt k m) [
              | yes y ↦ same k i z ∙ x.below k i y
              | no y ↦ same k i z ∙ (x.none k (omega arith) i ∙ skipped k (h.none k (omega arith) j))
            ]
          ];
          none = λ k i j. let y = above k i j in same k j (λ z. omega arith) ∙ x.none k (omega arith) j;
          long = long;
          most = h.most;
          found = h.found;
        }
      where
        above : (k : ℕ) → m' ≤ k → k ≤ n → m < k
        above k i j = let a = h.above (omega arith) in omega arith

    pub keeping-with : {r' : List ℕ} → b ≡ true → r' ≡ with_of r m → Keeping m' r'
    keeping-with {r'} t q =
        next r' (ap length q ∙ (length-with r m ∙ x.long))
        (λ k i z. (with k ∙ ap (λ (y : Bool). member r k || y) (ne_eqb k m z)) ∙ or-none (member r k))
        ((with m ∙ ap (λ (y : Bool). member r m || y) (eq-eqb m m refl)) ∙ (or-true (member r m) ∙ sym t))
      where
        with : (k : ℕ) → member r' k ≡ (member r k || eqb k m)
        with k = ap (λ (s : List ℕ). member s k) q ∙ member-with r m k (omega (arith, x.long))

    pub keeping-same : b ≡ false → Keeping m' r
    keeping-same t = next r x.long (λ k i z. refl) (x.none m (omega arith) l ∙ sym t)
