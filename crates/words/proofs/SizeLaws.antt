-- The words that hold the lengths, and how many words bytes take.
use mathlib.Core.Path.{◌≡◌, refl, sym}
use mathlib.Core.Bool.{Bool, true, false, ◌&&◌}
use mathlib.Core.List.{List, [], ◌∷◌}
use Prim.Native.Nat.{ℕ, ◌+◌, ◌/◌, ◌%◌, ◌^◌, ◌≤◌, ◌<◌}
use native.Mathlib.Omega.{arith}
use lib.Dec.{eqb}
use lib.ListN.{length, get_or, take, drop}
use Rattle.base.proofs.Booleans.{and_none, and-all}
use Rattle.lookahead.specs.Closing.{same_list}
use Rattle.words.specs.Layout.{length_at}
use Rattle.words.specs.inside.Bytes.{sizes_held}
use Rattle.words.specs.Begin.{pack_bytes}

-- ---- the words of the lengths
module _ (n : ℕ) (c : List ℕ) where
  abbrev low : ℕ
  low = length c % 2 ^ 32

  abbrev high : ℕ
  high = length c / 2 ^ 32

  pub sizes-short : length c < 4 → false ≡ sizes_held n c
  unfolding sizes_held same_list
  sizes-short h = go c h low high n
    where
      go : (c : List ℕ) → length c < 4 → (x y z : ℕ) → false ≡ same_list (take 3 (drop length_at c)) (x ∷ y ∷ z ∷ [])
      go [] h x y z = refl
      go (a ∷ []) h x y z = refl
      go (a ∷ b ∷ []) h x y z = sym (and_none (eqb b x))
      go (a ∷ b ∷ d ∷ []) h x y z = rw (and_none (eqb d y)) (sym (and_none (eqb b x)))
      go (a ∷ b ∷ d ∷ e ∷ l) h x y z = absurd (omega arith)

  module _ (h : 4 ≤ length c) where
    by-words : sizes_held n c ≡ (eqb (get_or c 1 0) low && (eqb (get_or c 2 0) high && eqb (get_or c 3 0) n))
    unfolding sizes_held same_list
    by-words = go c h low high n
      where
        go : (c : List ℕ) → 4 ≤ length c → (x y z : ℕ)
            → same_list (take 3 (drop length_at c)) (x ∷ y ∷ z ∷ []) ≡ (eqb (get_or c 1 0) x && (eqb (get_or c 2 0) y && eqb (get_or c 3 0) z))
        go [] h x y z = absurd (omega arith)
        go (a ∷ []) h x y z = absurd (omega arith)
        go (a ∷ b ∷ []) h x y z = absurd (omega arith)
        go (a ∷ b ∷ d ∷ []) h x y z = absurd (omega arith)
        go (a ∷ b ∷ d ∷ e ∷ l) h x y z = rw (and-all (eqb e z))

    -- the tests of the words, one after another
    module _ {x : ℕ} {p : Bool} (e : x ≡ low) (t : p ≡ eqb (get_or c 1 0) x) where
      pub sizes-first : p ≡ false → false ≡ sizes_held n c
      sizes-first f = rw (by-words, ← e, ← t, f)

      module _ {y : ℕ} {q : Bool} (d : y ≡ high) (u : q ≡ eqb (get_or c 2 0) y) (f : p ≡ true) where
        pub sizes-second : q ≡ false → false ≡ sizes_held n c
        sizes-second g = rw (by-words, ← e, ← t, f, ← d, ← u, g)

        pub sizes-third : {z : ℕ} → q ≡ true → z ≡ get_or c 3 0 → eqb z n ≡ sizes_held n c
        sizes-third g h = rw (by-words, ← e, ← t, f, ← d, ← u, g, h)

-- packed bytes are no more words than bytes
pub packed-few : (s : List ℕ) → length (pack_bytes s) ≤ length s
unfolding pack_bytes
packed-few [] = omega arith
packed-few (a ∷ []) = omega arith
packed-few (a ∷ b ∷ []) = omega arith
packed-few (a ∷ b ∷ c ∷ []) = omega arith
packed-few (a ∷ b ∷ c ∷ d ∷ l) = let h = packed-few l in omega arith

-- a word for every four bytes that have begun
pub packed-length : (s : List ℕ) → length (pack_bytes s) ≡ (length s + 3) / 4
unfolding pack_bytes
packed-length [] = omega arith
packed-length (a ∷ []) = omega arith
packed-length (a ∷ b ∷ []) = omega arith
packed-length (a ∷ b ∷ c ∷ []) = omega arith
packed-length (a ∷ b ∷ c ∷ d ∷ l) = let h = packed-length l in omega arith
