-- Each fetch counts one, and the count tells the bytes apart: a cursor that has come about by fetching has counted the bytes from the first to the last one
-- fetched, and fetched none of them twice.
use mathlib.Core.Path.{◌≡◌, refl, sym, ap, subst, ◌∙◌}
use mathlib.Core.List.{List, [], ◌∷◌, ◌++◌}
use Prim.Native.Nat.{ℕ, zero, suc, ◌+◌, ◌*◌, ◌%◌, ◌≤◌, ◌<◌}
use native.Mathlib.Omega.{arith}
use lib.ListN.{length, get_or}
use Rattle.base.proofs.Lists.{length-up_from, get_or-up_from, up_from-last}
use Rattle.base.specs.Rounds.{up_from}
use Rattle.number.specs.Types.{Cursor, Fetch, Value, Refused, Unfinished, Malformed}
use Rattle.number.specs.Fetching.{cursor, Tallied, fetch_at, Fetched, start, next, last_of, span}
use Rattle.number.specs.Number.{number_at}
use Rattle.number.proofs.NumberLaws.{none, one, cut, long, two, cut2, long2, high, three}

-- a cursor of a pass is its place
pub is-cursor : (s : List ℕ) (c : Cursor) → Tallied s c → c ≡ cursor c.at
is-cursor s c k = λ i. record { at = c.at; count = k.0 i }

-- ---- places in a row
one_more : (k : ℕ) → up_from 0 (k + 1) ≡ up_from 0 k ++ (k ∷ [])
one_more k = let e : 0 + k ≡ k = omega arith in up_from-last 0 k ∙ (rw e)

last-up_from : (k i x : ℕ) → suc x ≡ i → last_of x (up_from i k) ≡ x + k
unfolding up_from last_of
last-up_from zero i x e = omega arith
last-up_from (suc k) i x e = last-up_from k (suc i) i refl ∙ omega (arith, e)

span-up_from : (k : ℕ) → span (up_from 0 k) ≡ k
unfolding up_from span
span-up_from zero = refl
span-up_from (suc k) = let e = last-up_from k 1 0 refl in omega (arith, e)

-- ---- one fetch
-- what it gives is told by its byte, place and count
pub fetch-is : (s : List ℕ) (c : Cursor) {x : Fetch} → x.byte ≡ get_or s c.at 0 → x.behind.at ≡ c.at + 1 → x.behind.count ≡ c.count + 1
    → x ≡ fetch_at s c
unfolding fetch_at
fetch-is s c e p q = λ i. record { byte = e i; behind = record { at = p i; count = q i } }

-- from a cursor of a pass it gives the byte there, and the next cursor of the pass
fetch-gives : (s : List ℕ) (c : Cursor) → Tallied s c → {x : Fetch} → x ≡ fetch_at s c → (x.byte ≡ get_or s c.at 0) × (x.behind ≡ cursor (c.at + 1))
unfolding fetch_at
fetch-gives s c k e = rw (e, k.0) (refl, refl)

-- ---- a number by its fetches: each way out of the code is one case of `number_at`, with the cursor behind the last byte fetched
module _ (s : List ℕ) (c : Cursor) (k : Tallied s c) where
  pub no_bytes : length s ≤ c.at → Refused (Unfinished c.at) c ≡ number_at s c.at
  no_bytes h = none s c.at h (is-cursor s c k)

  module _ (h : c.at < length s) {x : Fetch} (e : x ≡ fetch_at s c) where
    first : (x.byte ≡ get_or s c.at 0) × (x.behind ≡ cursor (c.at + 1))
    first = fetch-gives s c k e

    pub tallied₁ : Tallied s x.behind
    tallied₁ = rw first.1 (refl, omega arith)

    pub one_byte : x.byte < 128 → Value x.byte x.behind ≡ number_at s c.at
    one_byte l = one s c.at h first.0 l first.1

    module _ (l : 128 ≤ x.byte) where
      low-is : 128 ≤ get_or s c.at 0
      low-is = omega (arith, first.0)

      at₁ : x.behind.at ≡ c.at + 1
      at₁ = ap (λ (d : Cursor). d.at) first.1

      pub one_left : length s ≤ x.behind.at → Refused (Unfinished c.at) x.behind ≡ number_at s c.at
      one_left q = cut s c.at h low-is (omega (arith, at₁)) first.1

      module _ (q : x.behind.at < length s) {y : Fetch} (e₁ : y ≡ fetch_at s x.behind) where
        h₁ : c.at + 1 < length s
        h₁ = omega (arith, at₁)

        second : (y.byte ≡ get_or s (c.at + 1) 0) × (y.behind ≡ cursor (c.at + 1 + 1))
        second = rw at₁ at (fetch-gives s x.behind tallied₁ e₁)

        pub tallied₂ : Tallied s y.behind
        tallied₂ = rw second.1 (refl, omega (arith, h₁))

        pub two-long : y.byte ≡ 0 → Refused (Malformed c.at) y.behind ≡ number_at s c.at
        two-long z = long s c.at h low-is h₁ (sym second.0 ∙ z) second.1

        pub two_bytes : {v : ℕ} → 0 < y.byte → y.byte < 128 → v ≡ x.byte % 128 + y.byte * 128 → Value v y.behind ≡ number_at s c.at
        two_bytes a b z =
            two s c.at h low-is h₁ (omega (arith, second.0)) (omega (arith, second.0)) (rw (first.0, second.0) at z) second.1

        module _ (l₁ : 128 ≤ y.byte) where
          middle-is : 128 ≤ get_or s (c.at + 1) 0
          middle-is = omega (arith, second.0)

          at₂ : y.behind.at ≡ c.at + 1 + 1
          at₂ = ap (λ (d : Cursor). d.at) second.1

          pub two-left : length s ≤ y.behind.at → Refused (Unfinished c.at) y.behind ≡ number_at s c.at
          two-left z = cut2 s c.at h low-is h₁ middle-is (omega (arith, at₂)) second.1

          module _ (q₁ : y.behind.at < length s) {z : Fetch} (e₂ : z ≡ fetch_at s y.behind) where
            h₂ : c.at + 1 + 1 < length s
            h₂ = omega (arith, at₂)

            third : (z.byte ≡ get_or s (c.at + 1 + 1) 0) × (z.behind ≡ cursor (c.at + 1 + 1 + 1))
            third = rw at₂ at (fetch-gives s y.behind tallied₂ e₂)

            pub three-long : z.byte ≡ 0 → Refused (Malformed c.at) z.behind ≡ number_at s c.at
            three-long i = long2 s c.at h low-is h₁ middle-is h₂ (sym third.0 ∙ i) third.1

            pub three-high : 3 < z.byte → Refused (Malformed c.at) z.behind ≡ number_at s c.at
            three-high i = high s c.at h low-is h₁ middle-is h₂ (omega (arith, third.0)) third.1

            pub three-bytes : {v : ℕ} → 0 < z.byte → z.byte ≤ 3 → v ≡ x.byte % 128 + (y.byte % 128 + z.byte * 128) * 128
                → Value v z.behind ≡ number_at s c.at
            three-bytes a b i =
                three s c.at h low-is h₁ middle-is h₂ (omega (arith, third.0)) (omega (arith, third.0)) (rw (first.0, second.0, third.0) at i)
                third.1

-- ---- every fetch from the start on
-- a cursor that has come about by fetching stands behind as many bytes as it has counted
pub fetched-tallied : {s : List ℕ} {l : List ℕ} {c : Cursor} → Fetched s l c → Tallied s c
unfolding fetch_at
fetched-tallied start = (refl, omega arith)
fetched-tallied {s} (next h l) = let k = fetched-tallied h in (ap (λ (n : ℕ). n + 1) k.0, omega arith)

-- the bytes that it fetched are the first ones, in their order
pub fetched-places : {s : List ℕ} {l : List ℕ} {c : Cursor} → Fetched s l c → l ≡ up_from 0 c.count
unfolding up_from fetch_at
fetched-places start = refl
fetched-places {s} (next {l} {c} h i) =
    let k = fetched-tallied h in ap (λ (m : List ℕ). m ++ (c.at ∷ [])) (fetched-places h) ∙ (rw k.0 (sym (one_more c.at)))

-- and every cursor of a pass has come about so
pub tallied-fetched : (s : List ℕ) (k : ℕ) → k ≤ length s → Fetched s (up_from 0 k) (cursor k)
unfolding up_from fetch_at
tallied-fetched s zero h = start
tallied-fetched s (suc k) h =
    let e : k + 1 ≡ suc k = omega arith in
    subst (λ (n : ℕ). Fetched s (up_from 0 n) (cursor n)) e
    (subst (λ (l : List ℕ). Fetched s l (cursor (k + 1))) (sym (one_more k)) (next (tallied-fetched s k (omega arith)) (omega arith)))

-- THE COUNT: it is the number of bytes from the first to the last one fetched
pub count-spans : {s : List ℕ} {l : List ℕ} {c : Cursor} → Fetched s l c → c.count ≡ span l
count-spans {s} {l} {c} h = rw (fetched-places h) (sym (span-up_from c.count))

-- ONCE: no byte is fetched twice
pub none-twice : {s : List ℕ} {l : List ℕ} {c : Cursor} → Fetched s l c → (i j : ℕ) → i < j → j < length l → ¬ (get_or l i 0 ≡ get_or l j 0)
none-twice {s} {l} {c} h i j p q e =
    let z = fetched-places h in
    let n = ap length z ∙ length-up_from 0 c.count in
    let a : get_or l i 0 ≡ 0 + i = ap (λ (m : List ℕ). get_or m i 0) z ∙ get_or-up_from c.count 0 i (omega (arith, n)) in
    let b : get_or l j 0 ≡ 0 + j = ap (λ (m : List ℕ). get_or m j 0) z ∙ get_or-up_from c.count 0 j (omega (arith, n)) in omega (arith, a, b, e)
