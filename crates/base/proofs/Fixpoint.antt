-- The least fixpoint of a monotone operator on finitely many Boolean cells, with no condition on ranges: every cell is in the list, or one round
-- settles it whatever stood before. One round more than there are cells reaches the fixpoint; whatever is sound and closed equals it.
use mathlib.Core.Path.{◌≡◌, refl}
use mathlib.Core.Logic.{◌⊎◌, inl, inr}
use mathlib.Core.Bool.{Bool, true, false}
use mathlib.Core.List.Memᴰ
use mathlib.Core.List.{List, [], ◌∷◌, Memᴰ}
use Prim.Native.Nat.{ℕ, zero, suc, ◌+◌, ◌≤◌, ◌<◌}
use native.Mathlib.Omega.{arith}
use lib.Dec.{T}
use lib.ListN.{length}
use Rattle.base.specs.Rounds.{rounds}
use Rattle.base.proofs.Booleans.{same}

-- every cell that X holds, Y holds
abbrev pub Within : {C : Type 0} → (C → Bool) → (C → Bool) → Type 0
Within {C} X Y = (c : C) → T (X c) → T (Y c)

-- every cell of l that X holds, Y holds
abbrev Below : {C : Type 0} → List C → (C → Bool) → (C → Bool) → Type 0
Below {C} l X Y = (c : C) → Memᴰ c l → T (X c) → T (Y c)

abbrev digit : Bool → ℕ
digit true = 1
digit false = 0

digit-le : (a b : Bool) → (T a → T b) → digit a ≤ digit b
digit-le true true h = omega arith
digit-le true false h = absurd (h tt)
digit-le false true h = omega arith
digit-le false false h = omega arith

digit-one : (b : Bool) → digit b ≤ 1
digit-one true = omega arith
digit-one false = omega arith

same-or-more : (a b : Bool) → (T a → T b) → (T b → T a) ⊎ (digit a < digit b)
same-or-more true b h = inl (λ _. tt)
same-or-more false true h = inr (omega arith)
same-or-more false false h = inl (λ t. t)

module _ {C : Type 0} where
  -- how many cells of l hold
  count : (C → Bool) → List C → ℕ
  count X [] = 0
  count X (c ∷ l) = digit (X c) + count X l

  count-le : (X Y : C → Bool) (l : List C) → Below l X Y → count X l ≤ count Y l
  unfolding count
  count-le X Y [] h = omega arith
  count-le X Y (c ∷ l) h =
      let one = digit-le (X c) (Y c) (h c (Memᴰ.head refl)) in
      let rest = count-le X Y l (λ d m. h d (Memᴰ.tail m)) in
      omega arith

  count-length : (X : C → Bool) (l : List C) → count X l ≤ length l
  unfolding count
  count-length X [] = omega arith
  count-length X (c ∷ l) = let one = digit-one (X c) in let rest = count-length X l in omega arith

  -- the larger set holds no more of l, or strictly more cells
  grow : (X Y : C → Bool) (l : List C) → Below l X Y → Below l Y X ⊎ (count X l < count Y l)
  unfolding count
  grow X Y [] h = inl (λ c m. absurd (Memᴰ.not-nil m))
  grow X Y (c ∷ l) h = go (same-or-more (X c) (Y c) (h c (Memᴰ.head refl))) (grow X Y l (λ d m. h d (Memᴰ.tail m)))
    where
      one : digit (X c) ≤ digit (Y c)
      one = digit-le (X c) (Y c) (h c (Memᴰ.head refl))

      rest : count X l ≤ count Y l
      rest = count-le X Y l (λ d m. h d (Memᴰ.tail m))

      both : (T (Y c) → T (X c)) → Below l Y X → (d : C) → (d ≡ c) ⊎ Memᴰ d l → T (Y d) → T (X d)
      both k ks d (inl e) t = rw e (k (rw e at t))
      both k ks d (inr m) t = ks d m t

      go : (T (Y c) → T (X c)) ⊎ (digit (X c) < digit (Y c)) → Below l Y X ⊎ (count X l < count Y l)
          → Below (c ∷ l) Y X ⊎ (count X (c ∷ l) < count Y (c ∷ l))
      go (inl k) (inl ks) = inl (λ d m. both k ks d (Memᴰ.cases_cons m))
      go (inl k) (inr q) = inr (omega (arith, one))
      go (inr q) k = inr (omega (arith, rest))

module _ {C : Type 0} (F : (C → Bool) → C → Bool) (mono : (X Y : C → Bool) → Within X Y → Within (F X) (F Y)) where
  rise : (k : ℕ) → Within (rounds F k) (rounds F (suc k))
  unfolding rounds
  rise zero c t = absurd t
  rise (suc k) c t = mono (rounds F k) (rounds F (suc k)) (rise k) c t

  -- a closed set holds every round
  pub least : (X : C → Bool) → Within (F X) X → (k : ℕ) → Within (rounds F k) X
  unfolding rounds
  least X h zero c t = absurd t
  least X h (suc k) c t = h c (mono (rounds F k) X (least X h k) c t)

  module _ (L : List C) (settled : (c : C) → Memᴰ c L ⊎ ((X Y : C → Bool) → T (F X c) → T (F Y c))) where
    spread : (k : ℕ) → Below L (rounds F (suc (suc k))) (rounds F (suc k)) → Within (rounds F (suc (suc k))) (rounds F (suc k))
    unfolding rounds
    spread k h c t = go (settled c)
      where
        go : Memᴰ c L ⊎ ((X Y : C → Bool) → T (F X c) → T (F Y c)) → T (F (rounds F k) c)
        go (inl m) = h c m t
        go (inr s) = s (rounds F (suc k)) (rounds F k) t

    -- a round adds nothing, or so many cells hold already
    climb : (k : ℕ) → Within (rounds F (suc (suc k))) (rounds F (suc k)) ⊎ (k < count (rounds F (suc (suc k))) L)
    unfolding rounds
    climb zero = go (grow (rounds F 1) (rounds F 2) L (λ c _ t. rise 1 c t))
      where
        go : Below L (rounds F 2) (rounds F 1) ⊎ (count (rounds F 1) L < count (rounds F 2) L) → Within (rounds F 2) (rounds F 1)
            ⊎ (0 < count (rounds F 2) L)
        go (inl h) = inl (spread 0 h)
        go (inr q) = inr (omega arith)
    climb (suc k) = go (climb k)
      where
        step : k < count (rounds F (suc (suc k))) L
            → Below L (rounds F (suc (suc (suc k)))) (rounds F (suc (suc k))) ⊎ (count (rounds F (suc (suc k))) L < count (rounds F (suc (suc (suc k)))) L)
            → Within (rounds F (suc (suc (suc k)))) (rounds F (suc (suc k))) ⊎ (suc k < count (rounds F (suc (suc (suc k)))) L)
        step q (inl h) = inl (spread (suc k) h)
        step q (inr q') = inr (omega arith)

        go : Within (rounds F (suc (suc k))) (rounds F (suc k)) ⊎ (k < count (rounds F (suc (suc k))) L)
            → Within (rounds F (suc (suc (suc k)))) (rounds F (suc (suc k))) ⊎ (suc k < count (rounds F (suc (suc (suc k)))) L)
        go (inl h) = inl (mono (rounds F (suc (suc k))) (rounds F (suc k)) h)
        go (inr q) = step q (grow (rounds F (suc (suc k))) (rounds F (suc (suc (suc k)))) L (λ c _ t. rise (suc (suc k)) c t))

    -- one round more than there are cells, and another adds nothing
    pub settle : Within (F (rounds F (suc (length L)))) (rounds F (suc (length L)))
    unfolding rounds
    settle = go (climb (length L))
      where
        go : Within (rounds F (suc (suc (length L)))) (rounds F (suc (length L))) ⊎ (length L < count (rounds F (suc (suc (length L)))) L)
            → Within (F (rounds F (suc (length L)))) (rounds F (suc (length L)))
        go (inl h) = h
        go (inr q) = absurd (omega (arith, count-length (rounds F (suc (suc (length L)))) L))

    -- what is closed, and holds nothing that the fixpoint does not, is the fixpoint
    pub exact : (X : C → Bool) → Within (F X) X → Within X (rounds F (suc (length L))) → (c : C) → X c ≡ rounds F (suc (length L)) c
    exact X closed sound c = same (X c) (rounds F (suc (length L)) c) (sound c) (least X closed (suc (length L)) c)
