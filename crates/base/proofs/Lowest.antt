-- The search for the lowest number finds the lowest of what its test decides.
use mathlib.Core.Path.{◌≡◌, refl, sym, ap, ap₂, ◌∙◌}
use mathlib.Core.Bool.{Bool, true, false, not, cond}
use mathlib.Core.List.{List, [], ◌∷◌}
use mathlib.Core.Option.{Option, none, some}
use Prim.Native.Nat.{ℕ, zero, suc, ◌+◌, ◌-◌, ◌≤◌, ◌<◌}
use native.Mathlib.Numerals.{add-one}
use native.Mathlib.Omega.{arith}
use native.Mathlib.Decide.{dec_le, dec_lt}
use borrow.Author.Tests.{lt-ltb, le-ltb}
use lib.Dec.{T, ltb}
use lib.ListN.{length, get_or}
use Rattle.std.specs.Prelude.{Option as Answer, Some, None}
use Rattle.std.specs.List.{position_or_len}
use Rattle.base.specs.Search.{lowest_from, found, LowestIs, this, nothing}
use Rattle.base.proofs.Booleans.{true→T}

-- what a search came to
data Sought (p : ℕ → Bool) (i k : ℕ) : Option ℕ → Type 0 where
  hit : (a : ℕ) → i ≤ a → a < i + k → T (p a) → ((c : ℕ) → i ≤ c → c < a → ¬ T (p c)) → Sought p i k (some a)
  miss : ((c : ℕ) → i ≤ c → c < i + k → ¬ T (p c)) → Sought p i k none

sought : (p : ℕ → Bool) (i k : ℕ) → Sought p i k (lowest_from p i k)
unfolding lowest_from
sought p i zero = miss (λ c l m t. absurd (omega arith))
sought p i (suc k) = go (p i) refl (sought p (suc i) k)
  where
    not-here : p i ≡ false → (c : ℕ) → i ≤ c → ¬ (suc i ≤ c) → ¬ T (p c)
    not-here e c l n t = let z : c ≡ i = omega arith in let y : T (p i) = rw z at t in rw e at y

    later : p i ≡ false → {o : Option ℕ} → Sought p (suc i) k o → Sought p i (suc k) o
    later e (hit a l m t h) = hit a (omega arith) (omega arith) t
        (λ c l' m'. elim (dec_le (suc i) c) [ yes y ↦ h c y m' | no y ↦ not-here e c l' y ])
    later e (miss h) = miss (λ c l' m'. elim (dec_le (suc i) c) [ yes y ↦ h c y (omega arith) | no y ↦ not-here e c l' y ])

    go : (v : Bool) → p i ≡ v → Sought p (suc i) k (lowest_from p (suc i) k)
        → Sought p i (suc k) (elim v [ true ↦ some i | false ↦ lowest_from p (suc i) k ])
    go true e rec = hit i (omega arith) (omega arith) (true→T (p i) e) (λ c l m t. absurd (omega arith))
    go false e rec = later e rec

-- the test decides the property below n, and nothing from n on has it
pub lowest-is : (P : ℕ → Type 0) (p : ℕ → Bool) (n : ℕ) → ((a : ℕ) → a < n → T (p a) → P a) → ((a : ℕ) → P a → T (p a) × (a < n))
    → LowestIs P (lowest_from p 0 n)
lowest-is P p n to from = go (sought p 0 n)
  where
    lower : (a : ℕ) → ((c : ℕ) → 0 ≤ c → c < a → ¬ T (p c)) → (c : ℕ) → P c → Dec (a ≤ c) → a ≤ c
    lower a h c x (yes l) = l
    lower a h c x (no l) = absurd (h c (omega arith) (omega arith) (from c x).0)

    go : {o : Option ℕ} → Sought p 0 n o → LowestIs P o
    go (hit a l m t h) = this a (to a (omega arith) t) (λ c x. lower a h c x (dec_le a c))
    go (miss h) = nothing (λ c x. let y = from c x in let l = y.1 in h c (omega arith) (omega arith) y.0)

-- there is one lowest
pub lowest-one : {P : ℕ → Type 0} {o p : Option ℕ} → LowestIs P o → LowestIs P p → o ≡ p
lowest-one (this a x h) (this b y k) = let l = h b y in let m = k a x in ap {B = Option ℕ} some (omega arith)
lowest-one (this a x h) (nothing k) = absurd (k a x)
lowest-one (nothing h) (this b y k) = absurd (h b y)
lowest-one (nothing h) (nothing k) = refl

-- ---- the search a number at a time, as a loop meets it
module _ (p : ℕ → Bool) (i k : ℕ) {o : Option ℕ} (h : lowest_from p i k ≡ o) where
  pub lowest-none : k ≡ 0 → none ≡ o
  unfolding lowest_from
  lowest-none e = rw e at h

  pub lowest-hit : 0 < k → p i ≡ true → some i ≡ o
  unfolding lowest_from
  lowest-hit l e = go k l h
    where
      go : (k : ℕ) → 0 < k → lowest_from p i k ≡ o → some i ≡ o
      go zero l h = absurd (omega arith)
      go (suc k) l h = ap (λ (b : Bool). elim b as (λ _. Option ℕ) [ true ↦ some i | false ↦ lowest_from p (suc i) k ]) (sym e) ∙ h

  pub lowest-miss : 0 < k → p i ≡ false → lowest_from p (i + 1) (k - 1) ≡ o
  unfolding lowest_from
  lowest-miss l e = go k l h
    where
      go : (k : ℕ) → 0 < k → lowest_from p i k ≡ o → lowest_from p (i + 1) (k - 1) ≡ o
      go zero l h = absurd (omega arith)
      go (suc k) l h =
          let q : suc k - 1 ≡ k = omega arith in
          rw (q, add-one) (ap (λ (b : Bool). elim b as (λ _. Option ℕ) [ true ↦ some i | false ↦ lowest_from p (suc i) k ]) (sym e) ∙ h)

-- the same up to n, as a loop that counts up meets it
pub lowest-next : (p : ℕ → Bool) (n i : ℕ) {o : Option ℕ} → lowest_from p i (n - i) ≡ o → i < n → p i ≡ false → lowest_from p (i + 1) (n - (i + 1)) ≡ o
lowest-next p n i h l e = let q : n - (i + 1) ≡ n - i - 1 = omega arith in rw q (lowest-miss p i (n - i) h (omega arith) e)

-- two tests that agree on the numbers searched find the same
pub lowest-same : (p q : ℕ → Bool) (i k : ℕ) → ((a : ℕ) → i ≤ a → a < i + k → p a ≡ q a) → lowest_from p i k ≡ lowest_from q i k
unfolding lowest_from
lowest-same p q i zero h = refl
lowest-same p q i (suc k) h =
    ap₂ (λ (b : Bool) (o : Option ℕ). elim b as (λ _. Option ℕ) [ true ↦ some i | false ↦ o ]) (h i (omega arith) (omega arith))
    (lowest-same p q (suc i) k (λ a l m. h a (omega arith) (omega arith)))

-- ---- the first element that passes a test, where the test is one of numbers: what the library's `position` answers is what the search finds
module _ (p : ℕ → Bool) where
  abbrev answer : ℕ → ℕ → ℕ → Answer ℕ
  answer i k n = cond (ltb k n) (Some (i + k)) None

  pub position-from : (xs : List ℕ) (q : ℕ → Bool) (i : ℕ) → ((k : ℕ) → k < length xs → q (i + k) ≡ p (get_or xs k 0))
      → answer i (position_or_len p xs) (length xs) ≡ found (lowest_from q i (length xs))
  unfolding lowest_from
  position-from [] q i h = refl
  position-from (x ∷ xs) q i h = go (p x) (first (h 0 (omega arith))) (position-from xs q (suc i) behind)
    where
      first : q (i + 0) ≡ p x → q i ≡ p x
      first e = let z : i + 0 ≡ i = omega arith in rw z at e

      behind : (k : ℕ) → k < length xs → q (suc i + k) ≡ p (get_or xs k 0)
      behind k l = let z : i + suc k ≡ suc i + k = omega arith in rw z at (h (suc k) (omega arith))

      go : (b : Bool) → q i ≡ b → answer (suc i) (position_or_len p xs) (length xs) ≡ found (lowest_from q (suc i) (length xs))
          → answer i (cond (not b) (1 + position_or_len p xs) 0) (suc (length xs)) ≡ found (lowest_from q i (suc (length xs)))
      go true e r = let z : i + 0 ≡ i = omega arith in rw (z, e, lowest_from) (rw (lt-ltb 0 (suc (length xs)) (omega arith)) refl)
      go false e r =
          let z : i + (1 + position_or_len p xs) ≡ suc i + position_or_len p xs = omega arith in
          rw (z, e, lowest_from) (moved (dec_lt (position_or_len p xs) (length xs)) ∙ r)
        where
          moved : Dec (position_or_len p xs < length xs)
              → cond (ltb (1 + position_or_len p xs) (suc (length xs))) (Some (suc i + position_or_len p xs)) None
              ≡ answer (suc i) (position_or_len p xs) (length xs)
          moved (yes l) = rw (lt-ltb (1 + position_or_len p xs) (suc (length xs)) (omega arith), lt-ltb (position_or_len p xs) (length xs) l) refl
          moved (no l) = rw (le-ltb (1 + position_or_len p xs) (suc (length xs)) (omega arith), le-ltb (position_or_len p xs) (length xs) (omega arith)) refl

  -- over all of a list
  pub position-lowest : (xs : List ℕ) (q : ℕ → Bool) → ((k : ℕ) → k < length xs → q k ≡ p (get_or xs k 0))
      → cond (ltb (position_or_len p xs) (length xs)) (Some (position_or_len p xs)) None ≡ found (lowest_from q 0 (length xs))
  position-lowest xs q h = let z : 0 + position_or_len p xs ≡ position_or_len p xs = omega arith in rw z at (position-from xs q 0 whole)
    where
      whole : (k : ℕ) → k < length xs → q (0 + k) ≡ p (get_or xs k 0)
      whole k l = let z : 0 + k ≡ k = omega arith in rw z (h k l)
