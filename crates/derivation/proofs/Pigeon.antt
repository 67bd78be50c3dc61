-- The pigeonhole: a list of numbers below k, no two of them equal, has at most k members.
use mathlib.Core.Path.{◌≡◌, refl, sym, ◌∙◌}
use mathlib.Core.Logic.{◌⊎◌, inl, inr}
use mathlib.Core.Bool.{Bool, true, false}
use mathlib.Core.List.Memᴰ
use mathlib.Core.List.{List, [], ◌∷◌, Memᴰ}
use Prim.Native.Nat.{ℕ, zero, suc, ◌≤◌, ◌<◌}
use native.Mathlib.Omega.{arith}
use lib.Dec.{eqb}
use lib.ListN.{length}
use borrow.Author.Tests.{eqb-true, eqb-false}
use Rattle.base.specs.Lists.{Distinct, nil, also}

-- the list without its members k: then all that is left is below k, if all was below k + 1
unfoldable without : ℕ → List ℕ → List ℕ
without k [] = []
without k (x ∷ l) = elim (eqb x k) [ true ↦ without k l | false ↦ x ∷ without k l ]

-- what is left was there and is not k
without-mem : (k : ℕ) (l : List ℕ) (y : ℕ) → Memᴰ y (without k l) → Memᴰ y l × ¬ (y ≡ k)
unfolding without
without-mem k [] y m = absurd (Memᴰ.not-nil m)
without-mem k (x ∷ l) y m = go (eqb x k) refl m (without-mem k l y)
  where
    kept : eqb x k ≡ false → (y ≡ x) ⊎ Memᴰ y (without k l) → (Memᴰ y (without k l) → Memᴰ y l × ¬ (y ≡ k))
        → Memᴰ y (x ∷ l) × ¬ (y ≡ k)
    kept e (inl q) rec = (Memᴰ.head q, λ z. eqb-false x k e (sym q ∙ z))
    kept e (inr m) rec = let h = rec m in (Memᴰ.tail h.0, h.1)

    go : (b : Bool) → eqb x k ≡ b → Memᴰ y (elim b [ true ↦ without k l | false ↦ x ∷ without k l ])
        → (Memᴰ y (without k l) → Memᴰ y l × ¬ (y ≡ k)) → Memᴰ y (x ∷ l) × ¬ (y ≡ k)
    go true e m rec = let h = rec m in (Memᴰ.tail h.0, h.1)
    go false e m rec = kept e (Memᴰ.cases_cons m) rec

without-distinct : (k : ℕ) {l : List ℕ} → Distinct l → Distinct (without k l)
unfolding without
without-distinct k nil = nil
without-distinct k (also {x = x} {l = l} n d) = go (eqb x k) (without-distinct k d)
  where
    go : (b : Bool) → Distinct (without k l) → Distinct {A = ℕ} (elim b [ true ↦ without k l | false ↦ x ∷ without k l ])
    go true rec = rec
    go false rec = also (λ m. n (without-mem k l x m).0) rec

-- nothing goes if k is not there, and one goes at most
without-same : (k : ℕ) (l : List ℕ) → ¬ Memᴰ k l → length l ≤ length (without k l)
unfolding without
without-same k [] n = omega arith
without-same k (x ∷ l) n = go (eqb x k) refl (without-same k l (λ m. n (Memᴰ.tail m)))
  where
    go : (b : Bool) → eqb x k ≡ b → length l ≤ length (without k l)
        → suc (length l) ≤ length {A = ℕ} (elim b [ true ↦ without k l | false ↦ x ∷ without k l ])
    go true e rec = absurd (n (Memᴰ.head (sym (eqb-true x k e))))
    go false e rec = omega arith

without-one : (k : ℕ) {l : List ℕ} → Distinct l → length l ≤ suc (length (without k l))
unfolding without
without-one k nil = omega arith
without-one k (also {x = x} {l = l} n d) = go (eqb x k) refl (without-one k d)
  where
    go : (b : Bool) → eqb x k ≡ b → length l ≤ suc (length (without k l))
        → suc (length l) ≤ suc (length {A = ℕ} (elim b [ true ↦ without k l | false ↦ x ∷ without k l ]))
    go true e rec = let q = eqb-true x k e in let h = without-same k l (rw q at n) in omega arith
    go false e rec = omega arith

pub pigeon : (k : ℕ) (l : List ℕ) → Distinct l → ((x : ℕ) → Memᴰ x l → x < k) → length l ≤ k
pigeon zero [] d h = omega arith
pigeon zero (x ∷ l) d h = absurd (let z = h x (Memᴰ.head refl) in omega arith)
pigeon (suc k) l d h =
    let small = pigeon k (without k l) (without-distinct k d) (λ x m. let y = without-mem k l x m in let z = h x y.0 in let n = y.1 in omega arith) in
    let one = without-one k d in
    omega arith
