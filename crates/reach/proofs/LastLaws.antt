-- The last position at which anything stands: the union of all sets, and its highest member.
use mathlib.Core.Path.{◌≡◌, refl, sym, ap, ap₂, ◌∙◌}
use mathlib.Core.Logic.{◌⊎◌, inl, inr}
use mathlib.Core.Bool.{Bool, true, false, ◌||◌}
use mathlib.Core.List.{List}
use Prim.Native.Nat.{ℕ, zero, suc, ◌+◌, ◌-◌, ◌*◌, ◌≤◌, ◌<◌}
use native.Mathlib.Omega.{arith}
use native.Mathlib.Decide.{dec_lt}
use lib.Dec.{T}
use lib.ListN.{length}
use Rattle.base.proofs.Booleans.{or-T, T-or-l, T-or-r}
use Rattle.grammar.specs.Grammar.{Grammar}
use Rattle.positions.specs.inside.Positions.{set_words, empty_set, member, union_of}
use Rattle.positions.specs.inside.Words.{set_at}
use Rattle.positions.proofs.SetLaws.{member-empty, member_union}
use Rattle.positions.proofs.WordLaws.{member-set}
use Rattle.derivation.specs.ReachRounds.{arrives?, highest_to, wrong_place}
use Rattle.reach.specs.inside.Sets.{stands, Occupied}

-- ---- the union of all sets, a place at a time
pub any-begin : (ws : List ℕ) {s : List ℕ} → s ≡ empty_set → Occupied ws 0 s
unfolding Occupied
any-begin ws {s} e j l = (λ t. none (rw e at t), λ x. some x)
  where
    none : T (member empty_set j) → (p : ℕ) × (p < 0) × T (stands ws p j)
    none t = absurd (rw (member-empty j) at t)

    some : (p : ℕ) × (p < 0) × T (stands ws p j) → T (member s j)
    some (p, m, t) = absurd (omega arith)

pub any_next : (ws : List ℕ) (m : ℕ) (s : List ℕ) {h r : List ℕ} → h ≡ set_at ws (set_words * m) → r ≡ union_of s h → Occupied ws m s
    → Occupied ws (m + 1) r
unfolding Occupied stands
any_next ws m s {h} {r} e d x j l = (λ t. to (or-T (member s j) (stands ws m j) (rw both at t)), from)
  where
    both : member r j ≡ (member s j || stands ws m j)
    both = ap (λ (r : List ℕ). member r j) d ∙ member_union s h j l
        ∙ ap (λ (b : Bool). member s j || b) (ap (λ (h : List ℕ). member h j) e ∙ member-set ws (set_words * m) j l)

    to : T (member s j) ⊎ T (stands ws m j) → (p : ℕ) × (p < m + 1) × T (stands ws p j)
    to (inl t) = let y = (x j l).0 t in (y.0, let k = y.1 in omega arith, y.2)
    to (inr t) = (m, omega arith, t)

    from : (p : ℕ) × (p < m + 1) × T (stands ws p j) → T (member r j)
    from (p, k, t) = go (dec_lt p m)
      where
        go : Dec (p < m) → T (member r j)
        go (yes y) = rw both (T-or-l (member s j) (stands ws m j) ((x j l).1 (p, y, t)))
        go (no y) = let z : p ≡ m = omega arith in rw both (T-or-r (member s j) (stands ws m j) (rw z at t))

pub any-end : (ws : List ℕ) (p m : ℕ) (s : List ℕ) → p ≡ m → Occupied ws p s → Occupied ws m s
any-end ws p m s e h = rw e at h

-- ---- the highest member, from n down
module _ (p : ℕ → Bool) where
  -- behind position k there is none
  highest-down : (n k : ℕ) → k ≤ n → ((j : ℕ) → k < j → j ≤ n → p j ≡ false) → highest_to p n ≡ highest_to p k
  unfolding highest_to
  highest-down zero k l f = let e : k ≡ 0 = omega arith in rw e
  highest-down (suc n) k l f =
      go (dec_lt k (suc n)) (λ m. highest-down n k (omega arith) (λ j a b. f j a (omega arith)))
    where
      go : Dec (k < suc n) → (k < suc n → highest_to p n ≡ highest_to p k) → highest_to p (suc n) ≡ highest_to p k
      go (yes m) d = rw (highest_to, f (suc n) m (omega arith)) (d m)
      go (no m) d = let e : k ≡ suc n = omega arith in rw e

  highest-here : (k : ℕ) → p k ≡ true → k ≡ highest_to p k
  unfolding highest_to
  highest-here zero e = refl
  highest-here (suc k) e = rw (highest_to, e)

  pub highest-none : (n : ℕ) → ((j : ℕ) → 0 ≤ j → j ≤ n → p j ≡ false) → 0 ≡ highest_to p n
  unfolding highest_to
  highest-none n f = sym (highest-down n 0 (omega arith) (λ j a b. f j (omega arith) b))

  pub highest-hit : (n k : ℕ) → k < n + 1 → ((j : ℕ) → k < j → j ≤ n → p j ≡ false) → p k ≡ true → k ≡ highest_to p n
  highest-hit n k l f e = highest-here k e ∙ sym (highest-down n k (omega arith) f)

  pub highest-miss : (n k : ℕ) → 0 < k → ((j : ℕ) → k ≤ j → j ≤ n → p j ≡ false) → p (k - 1) ≡ false
      → (j : ℕ) → k - 1 ≤ j → j ≤ n → p j ≡ false
  highest-miss n k l f e j a b = go (dec_lt j k)
    where
      go : Dec (j < k) → p j ≡ false
      go (yes m) = let z : j ≡ k - 1 = omega arith in rw z e
      go (no m) = f j (omega arith) b

highest-same : (p q : ℕ → Bool) (n : ℕ) → ((k : ℕ) → k ≤ n → p k ≡ q k) → highest_to p n ≡ highest_to q n
unfolding highest_to
highest-same p q zero h = refl
highest-same p q (suc n) h =
    ap₂ (λ (b : Bool) (o : ℕ). elim b as (λ _. ℕ) [ true ↦ suc n | false ↦ o ]) (h (suc n) (omega arith))
    (highest-same p q n (λ k l. h k (omega arith)))

pub wrong-is : (g : Grammar) (w all : List ℕ) {r : ℕ} → r ≡ highest_to (member all) (length w)
    → ((k : ℕ) → k ≤ length w → member all k ≡ arrives? g w k) → r ≡ wrong_place g w
unfolding wrong_place
wrong-is g w all e h = e ∙ highest-same (member all) (arrives? g w) (length w) h
