-- Lists: an element by its number, tests over all elements, runs of stores.
use mathlib.Core.Path.{◌≡◌, refl, ap, ◌∙◌}
use mathlib.Core.Logic.{◌⊎◌, inl, inr}
use mathlib.Core.Bool.{Bool, ◌||◌}
use mathlib.Core.Option.{none, some}
use mathlib.Core.List.{List, [], ◌∷◌, ◌++◌, Memᴰ}
use Prim.Native.Nat.{ℕ, zero, suc, ◌+◌, ◌-◌, ◌≤◌, ◌<◌}
use native.Mathlib.Omega.{arith}
use native.Mathlib.Decide.{dec_le, dec_lt}
use lib.Dec.{T}
use lib.ListN.{length, get_or, get_elem?, set, take, drop, length-take, drop_of_length-le}
use lib.Seq.{sets, set_comm, slice, slice-cons}
use Rattle.std.specs.List.{list_any}
use Rattle.base.specs.Lists.{AllOf}
use Rattle.base.specs.Rounds.{any_of, up_from}
use Rattle.base.proofs.Booleans.{clash, or-T, T-or-l, T-or-r}

-- ---- an element by its number
module _ {A : Type 0} where
  pub get-below : (l : List A) (n : ℕ) {x : A} → get_elem? l n ≡ some x → n < length l
  get-below [] n e = clash (cc)
  get-below (y ∷ l) zero e = omega arith
  get-below (y ∷ l) (suc n) e = let h = get-below l n e in omega arith

  pub get-behind : (l : List A) (n : ℕ) → get_elem? l n ≡ none → length l ≤ n
  get-behind [] n e = omega arith
  get-behind (y ∷ l) zero e = clash (cc)
  get-behind (y ∷ l) (suc n) e = let h = get-behind l n e in omega arith

  -- an element of the front part, and the one behind it
  pub get-front : (l k : List A) (n : ℕ) → n < length l → get_elem? (l ++ k) n ≡ get_elem? l n
  get-front [] k n h = absurd (omega arith)
  get-front (y ∷ l) k zero h = refl
  get-front (y ∷ l) k (suc n) h = get-front l k n (omega arith)

  pub get_seam : (l : List A) (x : A) (k : List A) → get_elem? (l ++ (x ∷ k)) (length l) ≡ some x
  get_seam [] x k = refl
  get_seam (y ∷ l) x k = get_seam l x k

  -- the same element, where there is another for places behind the end
  pub get-get_or : (l : List A) (n : ℕ) (d : A) → n < length l → get_elem? l n ≡ some (get_or l n d)
  get-get_or [] n d h = absurd (omega arith)
  get-get_or (y ∷ l) zero d h = refl
  get-get_or (y ∷ l) (suc n) d h = get-get_or l n d (omega arith)

  pub get_or-get : (l : List A) (n : ℕ) (d : A) {x : A} → get_elem? l n ≡ some x → get_or l n d ≡ x
  get_or-get [] n d e = clash (cc)
  get_or-get (y ∷ l) zero d e = cc
  get_or-get (y ∷ l) (suc n) d e = get_or-get l n d e

-- ---- every element has a property
pub all_append : {A : Type 0} (P : A → Type 0) (l k : List A) → AllOf P l → AllOf P k → AllOf P (l ++ k)
all_append P [] k h j = j
all_append P (x ∷ l) k h j = (h.0, all_append P l k h.1 j)

pub append-all : {A : Type 0} (P : A → Type 0) (l k : List A) → AllOf P (l ++ k) → AllOf P l × AllOf P k
append-all P [] k h = (tt, h)
append-all P (x ∷ l) k h = let r = append-all P l k h.1 in ((h.0, r.0), r.1)

pub all_map : {A : Type 0} {P Q : A → Type 0} → ((x : A) → P x → Q x) → (l : List A) → AllOf P l → AllOf Q l
all_map f [] h = tt
all_map f (x ∷ l) (p, h) = (f x p, all_map f l h)

pub all_drop : {A : Type 0} (P : A → Type 0) (n : ℕ) (l : List A) → AllOf P l → AllOf P (drop n l)
all_drop P zero l h = h
all_drop P (suc n) [] h = tt
all_drop P (suc n) (x ∷ l) (p, h) = all_drop P n l h

-- ---- some element passes a test
abbrev pub Found : {A : Type 0} → (A → Bool) → List A → Type 0
Found {A} p l = (n : ℕ) × (x : A) × (get_elem? l n ≡ some x) × T (p x)

pub any_of-T : {A : Type 0} (p : A → Bool) (l : List A) → T (any_of p l) → Found p l
unfolding any_of
any_of-T p [] t = absurd t
any_of-T {A} p (x ∷ l) t = go (or-T (p x) (any_of p l) t) (any_of-T p l)
  where
    go : T (p x) ⊎ T (any_of p l) → (T (any_of p l) → Found p l) → Found p (x ∷ l)
    go (inl t) rec = (zero, x, refl, t)
    go (inr t) rec = let h = rec t in (suc h.0, h.1, h.2, h.3)

pub T-any_of : {A : Type 0} (p : A → Bool) (l : List A) (n : ℕ) {x : A} → get_elem? l n ≡ some x → T (p x) → T (any_of p l)
unfolding any_of
T-any_of p [] n {x} e t = clash (cc)
T-any_of p (y ∷ l) zero {x} e t = let q : x ≡ y = cc in T-or-l (p y) (any_of p l) (rw q at t)
T-any_of p (y ∷ l) (suc n) {x} e t = T-or-r (p y) (any_of p l) (T-any_of p l n e t)

-- ---- ranges
pub get-up_from : (k i n : ℕ) {m : ℕ} → get_elem? (up_from i k) n ≡ some m → (i ≤ m) × (m < i + k)
unfolding up_from
get-up_from zero i n e = clash (cc)
get-up_from (suc k) i zero {m} e = let q : i ≡ m = cc in omega arith
get-up_from (suc k) i (suc n) e = let h = get-up_from k (suc i) n e in omega arith

pub up_from-get : (k i m : ℕ) → i ≤ m → m < i + k → get_elem? (up_from i k) (m - i) ≡ some m
unfolding up_from
up_from-get zero i m h l = clash (omega arith)
up_from-get (suc k) i m h l = go (m - i) refl (up_from-get k (suc i) m)
  where
    go : (d : ℕ) → m - i ≡ d → (suc i ≤ m → m < suc i + k → get_elem? (up_from (suc i) k) (m - suc i) ≡ some m)
        → get_elem? (i ∷ up_from (suc i) k) d ≡ some m
    go zero e rec = let q : i ≡ m = omega arith in cc
    go (suc d) e rec = let q : m - suc i ≡ d = omega arith in rw q at (rec (omega arith) (omega arith))

pub length-up_from : (i k : ℕ) → length (up_from i k) ≡ k
unfolding up_from
length-up_from i zero = refl
length-up_from i (suc k) = ap suc (length-up_from (suc i) k)

pub get_or-up_from : (k i n : ℕ) → n < k → get_or (up_from i k) n 0 ≡ i + n
unfolding up_from
get_or-up_from zero i n h = absurd (omega arith)
get_or-up_from (suc k) i zero h = omega arith
get_or-up_from (suc k) i (suc n) h = let e = get_or-up_from k (suc i) n (omega arith) in omega (arith, e)

pub up_from-last : (i k : ℕ) → up_from i (k + 1) ≡ up_from i k ++ ((i + k) ∷ [])
unfolding up_from
up_from-last i zero = let e : i + 0 ≡ i = omega arith in rw e
up_from-last i (suc k) =
    let e : suc k + 1 ≡ suc (k + 1) = omega arith in
    let f : i + suc k ≡ suc i + k = omega arith in
    rw (e, f) (ap (λ (l : List ℕ). i ∷ l) (up_from-last (suc i) k))

pub up_from-in : (k i m : ℕ) → i ≤ m → m < i + k → Memᴰ m (up_from i k)
unfolding up_from
up_from-in zero i m h l = absurd (omega arith)
up_from-in (suc k) i m h l = go (dec_le (suc i) m) (up_from-in k (suc i) m)
  where
    go : Dec (suc i ≤ m) → (suc i ≤ m → m < suc i + k → Memᴰ m (up_from (suc i) k)) → Memᴰ m (i ∷ up_from (suc i) k)
    go (yes y) rec = Memᴰ.tail (rec y (omega arith))
    go (no y) rec = Memᴰ.head {x = i} (omega arith)

-- ---- an element of a slice, by its number in the whole
pub slice_get : (t : List ℕ) (e m f : ℕ) → f + m < e → e ≤ length t → get_elem? (slice f e t) m ≡ some (get_or t (f + m) 0)
slice_get t e zero f l h = let q : f + 0 ≡ f = omega arith in rw (slice-cons f e t 0 (omega arith) h, q)
slice_get t e (suc m) f l h =
    let q : f + suc m ≡ suc f + m = omega arith in
    rw (slice-cons f e t 0 (omega arith) h, q) (slice_get t e m (suc f) (omega arith) h)

slice-none : (t : List ℕ) (e f : ℕ) → e ≤ f → slice f e t ≡ []
slice-none t e f h = drop_of_length-le (take e t) {i = f} (omega (arith, length-take e t))

pub slice-from : (t : List ℕ) (e m f v : ℕ) → e ≤ length t → get_elem? (slice f e t) m ≡ some v → (f + m < e) × (v ≡ get_or t (f + m) 0)
slice-from t e zero f v h q = go (dec_lt f e)
  where
    go : Dec (f < e) → (f + 0 < e) × (v ≡ get_or t (f + 0) 0)
    go (yes l) =
        let z : f + 0 ≡ f = omega arith in
        let y : some (get_or t f 0) ≡ some v = rw (slice-cons f e t 0 l h) at q in
        (omega arith, rw z (cc))
    go (no l) = let y : none ≡ some v = rw (slice-none t e f (omega arith)) at q in clash (cc)
slice-from t e (suc m) f v h q = go (dec_lt f e) (slice-from t e m (suc f) v h)
  where
    go : Dec (f < e) → (get_elem? (slice (suc f) e t) m ≡ some v → (suc f + m < e) × (v ≡ get_or t (suc f + m) 0)) → (f + suc m < e)
        × (v ≡ get_or t (f + suc m) 0)
    go (yes l) rec = let z : f + suc m ≡ suc f + m = omega arith in rw z (rec (rw (slice-cons f e t 0 l h) at q))
    go (no l) rec = let y : none ≡ some v = rw (slice-none t e f (omega arith)) at q in clash (cc)

-- ---- stores in two places that do not meet commute
pub set-sets : (t : List ℕ) (i v p : ℕ) (vs : List ℕ) → (p + length vs ≤ i) ⊎ (i < p) → set (sets t p vs) i v ≡ sets (set t i v) p vs
set-sets t i v p [] h = refl
set-sets t i v p (x ∷ vs) h = set-sets (set t p x) i v (suc p) vs (later h) ∙ ap (λ (l : List ℕ). sets l (suc p) vs) (set_comm t p i x v (apart h))
  where
    later : (p + length (x ∷ vs) ≤ i) ⊎ (i < p) → (suc p + length vs ≤ i) ⊎ (i < suc p)
    later (inl l) = inl (omega arith)
    later (inr l) = inr (omega arith)

    apart : (p + length (x ∷ vs) ≤ i) ⊎ (i < p) → p ≡ i → ⊥
    apart (inl l) e = omega arith
    apart (inr l) e = omega arith

pub sets-sets : (t : List ℕ) (i : ℕ) (us : List ℕ) (p : ℕ) (vs : List ℕ) → (p + length vs ≤ i) ⊎ (i + length us ≤ p)
    → sets (sets t p vs) i us ≡ sets (sets t i us) p vs
sets-sets t i [] p vs h = refl
sets-sets t i (u ∷ us) p vs h =
    ap (λ (l : List ℕ). sets l (suc i) us) (set-sets t i u p vs (here h)) ∙ sets-sets (set t i u) (suc i) us p vs (later h)
  where
    here : (p + length vs ≤ i) ⊎ (i + length (u ∷ us) ≤ p) → (p + length vs ≤ i) ⊎ (i < p)
    here (inl l) = inl l
    here (inr l) = inr (omega arith)

    later : (p + length vs ≤ i) ⊎ (i + length (u ∷ us) ≤ p) → (p + length vs ≤ suc i) ⊎ (suc i + length us ≤ p)
    later (inl l) = inl (omega arith)
    later (inr l) = inr (omega arith)

-- one run of stores behind another
pub sets-append : (t : List ℕ) (p : ℕ) (us vs : List ℕ) → sets t p (us ++ vs) ≡ sets (sets t p us) (p + length us) vs
sets-append t p [] vs = let e : p + 0 ≡ p = omega arith in rw e
sets-append t p (u ∷ us) vs = let e : p + suc (length us) ≡ suc p + length us = omega arith in rw e (sets-append (set t p u) (suc p) us vs)

-- `any_of` is the library's `list_any`
pub any_is : {A : Type 0} (p : A → Bool) (l : List A) → any_of p l ≡ list_any p l
unfolding any_of
any_is p [] = refl
any_is p (x ∷ l) = ap (λ b. p x || b) (any_is p l)
