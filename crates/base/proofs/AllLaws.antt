-- The test of all numbers of a range: what it decides, and a number at a time, as a loop meets it.
use mathlib.Core.Path.{◌≡◌, refl, ap, ap₂}
use mathlib.Core.Bool.{Bool, true, false, ◌&&◌}
use Prim.Native.Nat.{ℕ, zero, suc, ◌+◌, ◌-◌, ◌≤◌, ◌<◌}
use native.Mathlib.Numerals.{add-one}
use native.Mathlib.Omega.{arith}
use native.Mathlib.Decide.{dec_le}
use lib.Dec.{T}
use Rattle.base.specs.Search.{all_from}
use Rattle.base.proofs.Booleans.{and_T, T_and}

-- ---- what it decides
pub all-T : (p : ℕ → Bool) (i n : ℕ) → T (all_from p i n) → (k : ℕ) → i ≤ k → k < i + n → T (p k)
unfolding all_from
all-T p i zero t k l m = absurd (omega arith)
all-T p i (suc n) t k l m =
    let (here, rest) = and_T (p i) (all_from p (suc i) n) t in
    elim (dec_le (suc i) k) [
      | yes y ↦ all-T p (suc i) n rest k y (omega arith)
      | no y ↦ let z : k ≡ i = omega arith in rw z here
    ]

pub T-all : (p : ℕ → Bool) (i n : ℕ) → ((k : ℕ) → i ≤ k → k < i + n → T (p k)) → T (all_from p i n)
unfolding all_from
T-all p i zero h = tt
T-all p i (suc n) h = T_and (p i) (all_from p (suc i) n) (h i (omega arith) (omega arith)) (T-all p (suc i) n (λ k l m. h k (omega arith) (omega arith)))

-- tests that agree in the range
pub all_same : (p q : ℕ → Bool) (i n : ℕ) → ((k : ℕ) → i ≤ k → k < i + n → p k ≡ q k) → all_from p i n ≡ all_from q i n
unfolding all_from
all_same p q i zero h = refl
all_same p q i (suc n) h = ap₂ ◌&&◌ (h i (omega arith) (omega arith)) (all_same p q (suc i) n (λ k l m. h k (omega arith) (omega arith)))

-- ---- as a loop meets it, which asks the numbers from i up to n
pub all-begin : (p : ℕ → Bool) (n : ℕ) → all_from p 0 (n - 0) ≡ all_from p 0 n
all-begin p n = let z : n - 0 ≡ n = omega arith in ap (all_from p 0) z

module _ (p : ℕ → Bool) (i n : ℕ) where
  one_less : i < n → n - i ≡ suc (n - suc i)
  one_less l = omega arith

  pub all-next : i < n → p i ≡ true → {b : Bool} → all_from p i (n - i) ≡ b → all_from p (i + 1) (n - (i + 1)) ≡ b
  unfolding all_from
  all-next l e {b} h = let x : all_from p (suc i) (n - suc i) ≡ b = rw (one_less l, e) at h in rw add-one x

  pub all-fails : i < n → p i ≡ false → {b : Bool} → all_from p i (n - i) ≡ b → false ≡ b
  unfolding all_from
  all-fails l e h = rw (one_less l, e) at h

  pub all_done : n ≤ i → {b : Bool} → all_from p i (n - i) ≡ b → true ≡ b
  unfolding all_from
  all_done l h = let z : n - i ≡ 0 = omega arith in rw z at h
