-- Grammar bytes in words: a word at a time, as the loops that store and compare them go.
use mathlib.Core.Path.{◌≡◌, refl, sym, ap, ◌∙◌}
use mathlib.Core.Bool.{true, false, ◌&&◌}
use mathlib.Core.List.{List, [], ◌∷◌}
use Prim.Native.Nat.{ℕ, suc, ◌+◌, ◌*◌, ◌%◌, ◌^◌, ◌≤◌, ◌<◌}
use native.Mathlib.Numerals.{add-one}
use native.Mathlib.Omega.{arith}
use lib.Bits.{bit_or, or_shifted_r}
use lib.ListN.{length, get_or, set, drop, length-drop, drop_of_length-le}
use lib.Seq.{sets, get_or-drop, drop-drop, drop-cons}
use lib.Dec.{eqb}
use borrow.Author.Tests.{eq-eqb, ne_eqb}
use Rattle.lookahead.specs.Closing.{same_list}
use Rattle.words.specs.Layout.{bytes_at}
use Rattle.words.specs.Begin.{pack_bytes}
use Rattle.words.specs.inside.Bytes.{word_of_bytes, word_at, starts_with, bytes_held}

-- ---- four bytes in one word
-- one digit more on top
joins : (k x d : ℕ) → x < 2 ^ k → bit_or x (d * 2 ^ k) ≡ x + d * 2 ^ k
joins k x d h = or_shifted_r d k x h ∙ omega arith

pub four : (a b c d : ℕ) → a < 256 → b < 256 → c < 256 → d < 256
    → bit_or (bit_or (bit_or a (b * 256 % 4294967296)) (c * 65536 % 4294967296)) (d * 16777216 % 4294967296) ≡ word_of_bytes a b c d
four a b c d ha hb hc hd =
    let eb : b * 256 % 4294967296 ≡ b * 256 = omega arith in
    let ec : c * 65536 % 4294967296 ≡ c * 65536 = omega arith in
    let ed : d * 16777216 % 4294967296 ≡ d * 16777216 = omega arith in
    rw (eb, ec, ed, joins 8 a b (omega arith), joins 16 (a + b * 256) c (omega arith), joins 24 (a + b * 256 + c * 65536) d (omega arith)) (omega arith)

-- the first word of some bytes, and the others
pack-first : (l : List ℕ) → 0 < length l → pack_bytes l ≡ word_at l 0 ∷ pack_bytes (drop 4 l)
unfolding pack_bytes word_at
pack-first [] h = absurd (omega arith)
pack-first (a ∷ []) h = ap (λ (x : ℕ). x ∷ []) (omega arith)
pack-first (a ∷ b ∷ []) h = ap (λ (x : ℕ). x ∷ []) (omega arith)
pack-first (a ∷ b ∷ c ∷ []) h = ap (λ (x : ℕ). x ∷ []) (omega arith)
pack-first (a ∷ b ∷ c ∷ d ∷ l) h = refl

-- the word of the bytes from byte i on
word-dropped : (l : List ℕ) (i : ℕ) → word_at (drop i l) 0 ≡ word_at l i
unfolding word_at
word-dropped l i =
    let e : i + 0 ≡ i = omega arith in
    rw (get_or-drop i l 0 0, get_or-drop i l 1 0, get_or-drop i l 2 0, get_or-drop i l 3 0, e)

pub pack-next : (l : List ℕ) (i : ℕ) → i < length l → pack_bytes (drop i l) ≡ word_at l i ∷ pack_bytes (drop (i + 4) l)
pack-next l i h = pack-first (drop i l) (omega (arith, length-drop i l)) ∙ rw (word-dropped l i, drop-drop 4 i l)

pack-none : (l : List ℕ) (i : ℕ) → length l ≤ i → pack_bytes (drop i l) ≡ []
unfolding pack_bytes
pack-none l i h = rw (drop_of_length-le l {i = i} h)

-- ---- storing: word k is the next, for the bytes from byte i on
unfoldable pub Storing : List ℕ → List ℕ → List ℕ → ℕ → ℕ → Type 0
unfolding pack_bytes
Storing l c₀ c i k = sets c k (pack_bytes (drop i l)) ≡ sets c₀ bytes_at (pack_bytes l)

pub store-begins : (l c₀ : List ℕ) → Storing l c₀ c₀ 0 bytes_at
unfolding Storing
store-begins l c₀ = refl

module _ (l c₀ c : List ℕ) (i k : ℕ) (x : Storing l c₀ c i k) where
  pub store-next : {v : ℕ} → i < length l → v ≡ word_at l i → Storing l c₀ (set c k v) (i + 4) (k + 1)
  unfolding Storing
  store-next {v} h e =
      let y : sets c k (word_at l i ∷ pack_bytes (drop (i + 4) l)) ≡ sets c₀ bytes_at (pack_bytes l) = rw (pack-next l i h) at x in
      rw (e, add-one k) y

  pub store-end : length l ≤ i → c ≡ sets c₀ bytes_at (pack_bytes l)
  unfolding Storing
  store-end h = let y : sets c k [] ≡ sets c₀ bytes_at (pack_bytes l) = rw (pack-none l i h) at x in y

-- ---- comparing: word k is the next, for the bytes from byte i on
starts_first : (c : List ℕ) (w : ℕ) (ws : List ℕ) (k : ℕ) → k < length c → starts_with (drop k c) (w ∷ ws)
    ≡ (eqb (get_or c k 0) w && starts_with (drop (suc k) c) ws)
unfolding starts_with same_list
starts_first c w ws k h = rw (drop-cons c k 0 h)

unfoldable pub Comparing : List ℕ → List ℕ → ℕ → ℕ → Type 0
unfolding starts_with pack_bytes bytes_held
Comparing l c i k = starts_with (drop k c) (pack_bytes (drop i l)) ≡ bytes_held l c

pub compare-begins : (l c : List ℕ) → Comparing l c 0 bytes_at
unfolding Comparing bytes_held
compare-begins l c = refl

module _ (l c : List ℕ) (i k : ℕ) (x : Comparing l c i k) where
  pub compare-end : length l ≤ i → true ≡ bytes_held l c
  unfolding Comparing starts_with same_list
  compare-end h = let y : starts_with (drop k c) [] ≡ bytes_held l c = rw (pack-none l i h) at x in y

  module _ (h : i < length l) where
    next : starts_with (drop k c) (word_at l i ∷ pack_bytes (drop (i + 4) l)) ≡ bytes_held l c
    unfolding Comparing
    next = rw (pack-next l i h) at x

    pub compare-short : length c ≤ k → false ≡ bytes_held l c
    unfolding starts_with same_list
    compare-short e =
        let y : starts_with [] (word_at l i ∷ pack_bytes (drop (i + 4) l)) ≡ bytes_held l c = rw (drop_of_length-le c {i = k} e) at next in
        y

    module _ (m : k < length c) {u v : ℕ} (a : u ≡ get_or c k 0) (b : v ≡ word_at l i) where
      pub compare-differs : (u ≡ v → ⊥) → false ≡ bytes_held l c
      compare-differs n =
          let q : eqb (get_or c k 0) (word_at l i) ≡ false = ne_eqb (get_or c k 0) (word_at l i) (λ z. n (a ∙ z ∙ sym b)) in
          let y = sym (starts_first c (word_at l i) (pack_bytes (drop (i + 4) l)) k m) ∙ next in
          rw q at y

      pub compare-next : u ≡ v → Comparing l c (i + 4) (k + 1)
      unfolding Comparing
      compare-next z =
          let q : eqb (get_or c k 0) (word_at l i) ≡ true = eq-eqb (get_or c k 0) (word_at l i) (sym a ∙ z ∙ b) in
          let y = sym (starts_first c (word_at l i) (pack_bytes (drop (i + 4) l)) k m) ∙ next in
          rw (add-one k) (rw q at y)
