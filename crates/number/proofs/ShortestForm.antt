-- The number reader reads exactly the shortest forms of the numbers up to 65,535: each of them, and nothing else.
use mathlib.Core.Path.{◌≡◌, refl, sym, ap, ◌∙◌}
use mathlib.Core.List.{List, [], ◌∷◌, ◌++◌}
use Prim.Native.Nat.{ℕ, ◌+◌, ◌*◌, ◌/◌, ◌%◌, ◌≤◌, ◌<◌}
use native.Mathlib.Omega.{arith}
use native.Mathlib.Numerals.{add-one}
use native.Mathlib.Decide.{dec_le, dec_lt}
use lib.ListN.{length, get_or, drop, length-append}
use lib.Seq.{get_or-append_seam, get_or-append-add, drop-cons}
use borrow.Author.Tests.{lt-ltb, le-ltb}
use Rattle.base.proofs.Booleans.{clash}
use Rattle.number.specs.Types.{Cursor, Value}
use Rattle.number.specs.Fetching.{cursor}
use Rattle.number.specs.Number.{number_at, shortest, max_number}
use Rattle.number.specs.Forms.{Bytes}
use Rattle.number.proofs.NumberLaws.{none, one, cut, long, two, cut2, long2, high, three}

-- ---- the shortest form by cases
pub shortest-one : (v : ℕ) → v < 128 → shortest v ≡ v ∷ []
unfolding shortest
shortest-one v h = rw (lt-ltb v 128 h)

pub shortest-two : (v : ℕ) → 128 ≤ v → v < 16384 → shortest v ≡ (v % 128 + 128) ∷ (v / 128) ∷ []
unfolding shortest
shortest-two v h l = rw (le-ltb v 128 h, lt-ltb v 16384 l)

pub shortest-three : (v : ℕ) → 16384 ≤ v → shortest v ≡ (v % 128 + 128) ∷ (v / 128 % 128 + 128) ∷ (v / 16384) ∷ []
unfolding shortest
shortest-three v h = rw (le-ltb v 128 (omega arith), le-ltb v 16384 h)

-- ---- what is written is read
module _ (pre : List ℕ) where
  at-0 : (x : ℕ) (r : List ℕ) → get_or (pre ++ (x ∷ r)) (length pre) 0 ≡ x
  at-0 x r = get_or-append_seam pre x r 0

  at_1 : (x y : ℕ) (r : List ℕ) → get_or (pre ++ (x ∷ y ∷ r)) (length pre + 1) 0 ≡ y
  at_1 x y r = get_or-append-add pre (x ∷ y ∷ r) 1 0

  at-2 : (x y z : ℕ) (r : List ℕ) → get_or (pre ++ (x ∷ y ∷ z ∷ r)) (length pre + 1 + 1) 0 ≡ z
  at-2 x y z r = let e : length pre + 1 + 1 ≡ length pre + 2 = omega arith in rw e (get_or-append-add pre (x ∷ y ∷ z ∷ r) 2 0)

  pub reads-shortest : (v : ℕ) (rest : List ℕ) → v ≤ max_number → number_at (pre ++ (shortest v ++ rest)) (length pre)
      ≡ Value v (cursor (length pre + length (shortest v)))
  reads-shortest v rest h = go (dec_lt v 128) (dec_lt v 16384)
    where
      short : v < 128 → number_at (pre ++ (shortest v ++ rest)) (length pre) ≡ Value v (cursor (length pre + length (shortest v)))
      short l =
          rw (shortest-one v l)
          (sym (one (pre ++ (v ∷ rest)) (length pre) (omega (arith, length-append pre (v ∷ rest))) (sym (at-0 v rest)) l refl))

      middle : 128 ≤ v → v < 16384 → number_at (pre ++ (shortest v ++ rest)) (length pre) ≡ Value v (cursor (length pre + length (shortest v)))
      middle m l =
          let x : ℕ = v % 128 + 128 in
          let y : ℕ = v / 128 in
          let a = at-0 x (y ∷ rest) in
          let b = at_1 x y rest in
          let e : length pre + 2 ≡ length pre + 1 + 1 = omega arith in
          rw (shortest-two v m l, e)
          (sym (two (pre ++ (x ∷ y ∷ rest)) (length pre) (omega (arith, length-append pre (x ∷ y ∷ rest))) (omega (arith, a))
          (omega (arith, length-append pre (x ∷ y ∷ rest))) (omega (arith, b)) (omega (arith, b)) (omega (arith, a, b)) refl))

      large : 16384 ≤ v → number_at (pre ++ (shortest v ++ rest)) (length pre) ≡ Value v (cursor (length pre + length (shortest v)))
      large m =
          let x : ℕ = v % 128 + 128 in
          let y : ℕ = v / 128 % 128 + 128 in
          let z : ℕ = v / 16384 in
          let a = at-0 x (y ∷ z ∷ rest) in
          let b = at_1 x y (z ∷ rest) in
          let c = at-2 x y z rest in
          let e : length pre + 3 ≡ length pre + 1 + 1 + 1 = omega arith in
          rw (shortest-three v m, e)
          (sym (three (pre ++ (x ∷ y ∷ z ∷ rest)) (length pre) (omega (arith, length-append pre (x ∷ y ∷ z ∷ rest))) (omega (arith, a))
          (omega (arith, length-append pre (x ∷ y ∷ z ∷ rest))) (omega (arith, b)) (omega (arith, length-append pre (x ∷ y ∷ z ∷ rest)))
          (omega (arith, c)) (omega (arith, c)) (omega (arith, a, b, c)) refl))

      go : Dec (v < 128) → Dec (v < 16384) → number_at (pre ++ (shortest v ++ rest)) (length pre) ≡ Value v (cursor (length pre + length (shortest v)))
      go (yes l) k = short l
      go (no l) (yes k) = middle (omega arith) k
      go (no l) (no k) = large (omega arith)

-- ---- and nothing else: what is read as a number is its shortest form, and the cursor stands behind it
module _ (s : List ℕ) (bytes : Bytes s) (at : ℕ) {v : ℕ} {c : Cursor} (e : number_at s at ≡ Value v c) where
  abbrev Spelled : Type 0
  Spelled = (v ≤ max_number) × (drop at s ≡ shortest v ++ drop c.at s)

  spelled : {w d : ℕ} → Value w (cursor d) ≡ number_at s at → (v ≡ w) × (c.at ≡ d)
  spelled q = (cc, ap (λ (x : Cursor). x.at) (let z : c ≡ cursor _ = cc in z))

  tail : (i : ℕ) → i < length s → drop i s ≡ get_or s i 0 ∷ drop (i + 1) s
  tail i h = rw add-one (drop-cons s i 0 h)

  abbrev low : ℕ
  low = get_or s at 0

  abbrev middle : ℕ
  middle = get_or s (at + 1) 0

  abbrev last : ℕ
  last = get_or s (at + 1 + 1) 0

  only-three : at < length s → 128 ≤ low → at + 1 < length s → 128 ≤ middle → at + 1 + 1 < length s → 0 < last → last ≤ 3 → Spelled
  only-three h b d f g z k =
      let q = spelled (three s at h b d f g z k refl refl) in
      let u : v ≡ low % 128 + (middle % 128 + last * 128) * 128 = q.0 in
      let x : v % 128 + 128 ≡ low = omega (arith, u, bytes at) in
      let r : v / 128 ≡ middle % 128 + last * 128 = omega (arith, u) in
      let y : v / 128 % 128 + 128 ≡ middle = rw r (omega (arith, bytes (at + 1))) in
      let w : v / 16384 ≡ last = omega (arith, u) in (
        omega (arith, u),
        rw (shortest-three v (omega (arith, u)), x, y, w, q.1)
            (tail at h ∙ ap (λ (l : List ℕ). low ∷ l) (tail (at + 1) d ∙ ap (λ (l : List ℕ). middle ∷ l) (tail (at + 1 + 1) g))),
      )

  only_two : at < length s → 128 ≤ low → at + 1 < length s → 0 < middle → middle < 128 → Spelled
  only_two h b d z k =
      let q = spelled (two s at h b d z k refl refl) in
      let u : v ≡ low % 128 + middle * 128 = q.0 in
      let x : v % 128 + 128 ≡ low = omega (arith, u, bytes at) in
      let y : v / 128 ≡ middle = omega (arith, u) in (
        omega (arith, u),
        rw (shortest-two v (omega (arith, u)) (omega (arith, u)), x, y, q.1) (tail at h ∙ ap (λ (l : List ℕ). low ∷ l) (tail (at + 1) d)),
      )

  only_one : at < length s → low < 128 → Spelled
  only_one h b =
      let q = spelled (one s at h refl b refl) in
      let p : v < 128 = omega (arith, q.0) in
      (omega arith, rw (shortest-one v p, q.0, q.1) (tail at h))

  on-last : at < length s → 128 ≤ low → at + 1 < length s → 128 ≤ middle → Dec (length s ≤ at + 1 + 1) → Dec (0 < last) → Dec (last ≤ 3)
      → Spelled
  on-last h b d f (yes g) z k = let q = cut2 s at h b d f g refl in clash (cc)
  on-last h b d f (no g) (no z) k = let q = long2 s at h b d f (omega arith) (omega arith) refl in clash (cc)
  on-last h b d f (no g) (yes z) (no k) = let q = high s at h b d f (omega arith) (omega arith) refl in clash (cc)
  on-last h b d f (no g) (yes z) (yes k) = only-three h b d f (omega arith) z k

  on-middle : at < length s → 128 ≤ low → Dec (length s ≤ at + 1) → Dec (0 < middle) → Dec (middle < 128) → Spelled
  on-middle h b (yes d) z k = let q = cut s at h b d refl in clash (cc)
  on-middle h b (no d) (no z) k = let q = long s at h b (omega arith) (omega arith) refl in clash (cc)
  on-middle h b (no d) (yes z) (yes k) = only_two h b (omega arith) z k
  on-middle h b (no d) (yes z) (no k) = on-last h b (omega arith) (omega arith) (dec_le (length s) (at + 1 + 1)) (dec_lt 0 last) (dec_le last 3)

  on-low : Dec (length s ≤ at) → Dec (low < 128) → Spelled
  on-low (yes h) b = let q = none s at h refl in clash (cc)
  on-low (no h) (yes b) = only_one (omega arith) b
  on-low (no h) (no b) = on-middle (omega arith) (omega arith) (dec_le (length s) (at + 1)) (dec_lt 0 middle) (dec_lt middle 128)

  pub reads-only-shortest : Spelled
  reads-only-shortest = on-low (dec_le (length s) at) (dec_lt low 128)
