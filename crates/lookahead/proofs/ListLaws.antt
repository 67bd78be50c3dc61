-- Lists as sets: members of mapped lists, lists with no member twice.
use mathlib.Core.Path.{◌≡◌, refl, sym, ap, ◌∙◌}
use mathlib.Core.Logic.{◌⊎◌, inl, inr}
use mathlib.Core.Option.{some}
use mathlib.Core.List.Memᴰ
use mathlib.Core.List.{List, [], ◌∷◌, ◌++◌, map}
use Prim.Native.Nat.{ℕ, zero, suc, ◌≤◌}
use native.Mathlib.Omega.{arith}
use lib.ListN.{length, get_elem?}
use Rattle.base.proofs.Booleans.{clash}
use Rattle.lookahead.specs.Configs.{In}
use Rattle.base.specs.Lists.{Distinct, nil, also}
use Rattle.lookahead.specs.Rules.{Each}

-- every member of l is one of m
abbrev pub Sub : {A : Type 0} → List A → List A → Type 0
Sub {A} l m = (x : A) → In x l → In x m

module _ {A : Type 0} where
  pub map-in : {B : Type 0} (f : A → B) {x : A} {l : List A} → In x l → In (f x) (map f l)
  map-in f (Memᴰ.head e) = Memᴰ.head (ap f e)
  map-in f (Memᴰ.tail m) = Memᴰ.tail (map-in f m)

  pub in_map : {B : Type 0} (f : A → B) (l : List A) {y : B} → In y (map f l) → (x : A) × In x l × (y ≡ f x)
  in_map f [] m = absurd (Memᴰ.not-nil m)
  in_map f (x ∷ l) (Memᴰ.head e) = (x, Memᴰ.head refl, e)
  in_map f (x ∷ l) (Memᴰ.tail m) = let t = in_map f l m in (t.0, Memᴰ.tail t.1, t.2)

  -- a member by its number, and a number of a member
  pub get_in : (l : List A) (n : ℕ) {x : A} → get_elem? l n ≡ some x → In x l
  get_in [] n e = clash (cc)
  get_in (y ∷ l) zero {x} e = Memᴰ.head {x = y} (cc)
  get_in (y ∷ l) (suc n) e = Memᴰ.tail (get_in l n e)

  pub in-get : {x : A} {l : List A} → In x l → (n : ℕ) × (get_elem? l n ≡ some x)
  in-get (Memᴰ.head e) = (zero, cc)
  in-get (Memᴰ.tail m) = let t = in-get m in (suc t.0, t.1)

  -- a new member behind the others
  pub distinct_snoc : {l : List A} {d : A} → Distinct l → ¬ In d l → Distinct (l ++ (d ∷ []))
  distinct_snoc nil n = also (λ m. n m) nil
  distinct_snoc {d = d} (also {x = x} {l = l} h t) n = also (λ m. pick (Memᴰ.append_cases l m)) (distinct_snoc t (λ m. n (Memᴰ.tail m)))
    where
      pick : In x l ⊎ In x (d ∷ []) → ⊥
      pick (inl m) = h m
      pick (inr m) = n (Memᴰ.head (sym (Memᴰ.eq_of_singleton m)))

  pub each_snoc : (P : A → Type 0) {d : A} {l : List A} → P d → Each P l → Each P (l ++ (d ∷ []))
  each_snoc P {d} {l} h hs c m = pick (Memᴰ.append_cases l m)
    where
      pick : In c l ⊎ In c (d ∷ []) → P c
      pick (inl n) = hs c n
      pick (inr n) = rw (Memᴰ.eq_of_singleton n) h

  -- the list without one of its members
  without : {x : A} {l : List A} → In x l → List A
  without (Memᴰ.head {xs = l} e) = l
  without (Memᴰ.tail {x = y} m) = y ∷ without m

  without-length : {x : A} {l : List A} (m : In x l) → suc (length (without m)) ≡ length l
  unfolding without
  without-length (Memᴰ.head e) = refl
  without-length (Memᴰ.tail m) = ap suc (without-length m)

  without_in : {x y : A} {l : List A} (m : In x l) → In y l → ¬ (y ≡ x) → In y (without m)
  unfolding without
  without_in {x} {y} (Memᴰ.head {x = z} {xs = l} e) n d = pick (Memᴰ.cases_cons n)
    where
      pick : (y ≡ z) ⊎ In y l → In y l
      pick (inl q) = absurd (d (q ∙ sym e))
      pick (inr k) = k
  without_in {x} {y} (Memᴰ.tail {x = z} {xs = l} m) n d = pick (Memᴰ.cases_cons n) (λ k. without_in m k d)
    where
      pick : (y ≡ z) ⊎ In y l → (In y l → In y (without m)) → In y (z ∷ without m)
      pick (inl q) rec = Memᴰ.head q
      pick (inr k) rec = Memᴰ.tail (rec k)

  -- the pigeonhole: a list with no member twice is no longer than a list that holds its members
  pub distinct-short : {l : List A} → Distinct l → (m : List A) → Sub l m → length l ≤ length m
  distinct-short nil m s = omega arith
  distinct-short (also {x = x} {l = l} n d) m s =
      let i = s x (Memᴰ.head refl) in
      let h = distinct-short d (without i) (λ y k. without_in i (s y (Memᴰ.tail k)) (λ q. n (Memᴰ.cast (sym q) k))) in
      omega (arith, without-length i)
