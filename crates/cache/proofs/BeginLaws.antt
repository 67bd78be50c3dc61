-- A cache that has just begun is begun for its bytes, holds nothing, and is coherent.
use mathlib.Core.Path.{◌≡◌, refl, sym, ap, ◌∙◌}
use mathlib.Core.Logic.{◌⊎◌, inl, inr}
use mathlib.Core.List.{List}
use Prim.Native.Nat.{ℕ, zero, suc, ◌+◌, ◌-◌, ◌≤◌, ◌<◌}
use native.Mathlib.Omega.{arith}
use native.Mathlib.Decide.{dec_lt}
use lib.ListN.{length, take, drop, replicate, length-replicate}
use lib.Seq.{sets, length-sets}
use Rattle.grammar.specs.Grammar.{Grammar}
use Rattle.words.specs.Layout.{min_words, fixed_words, length_at, held_at, start_at, bytes_at}
use Rattle.words.specs.Words.{word, held, start_of}
use Rattle.words.specs.Begin.{pack_bytes, size_words, begin_words, BegunFor}
use Rattle.cache.specs.Coherent.{Used, size, byte, Coherent}
use Rattle.words.proofs.WordLaws.{word-sets, region-sets, region-same}
use Rattle.cache.proofs.SuitLaws.{Suits}

word-zero : (n i : ℕ) → word (replicate n 0) i ≡ 0
word-zero zero i = refl
word-zero (suc n) zero = refl
word-zero (suc n) (suc i) = word-zero n i

-- a word before a run of words, or behind it
abbrev Off : ℕ → List ℕ → ℕ → Type 0
Off i vs j = (j < i) ⊎ (i + length vs ≤ j)

-- a word of the run, or not
off? : (i : ℕ) (vs : List ℕ) (j : ℕ) → Off i vs j ⊎ ((i ≤ j) × (j < i + length vs))
off? i vs j = go (dec_lt j i) (dec_lt j (i + length vs))
  where
    go : Dec (j < i) → Dec (j < i + length vs) → Off i vs j ⊎ ((i ≤ j) × (j < i + length vs))
    go (yes h) d = inl (inl h)
    go (no h) (no k) = inl (inr (omega arith))
    go (no h) (yes k) = inr (omega arith, k)

module _ (bytes : List ℕ) (packed : bytes_at + length (pack_bytes bytes) ≤ fixed_words) (l : ℕ) (long : min_words ≤ l) where
  -- the size, then the bytes
  abbrev sized : List ℕ
  sized = sets (replicate l 0) length_at (size_words (length bytes) l)

  abbrev fresh : List ℕ
  fresh = sets sized bytes_at (pack_bytes bytes)

  long-sized : length sized ≡ l
  long-sized = length-sets (replicate l 0) length_at (size_words (length bytes) l) ∙ length-replicate l 0

  long-fresh : length fresh ≡ l
  long-fresh = length-sets sized bytes_at (pack_bytes bytes) ∙ long-sized

  -- every other word is 0
  rest : (i : ℕ) → Off length_at (size_words (length bytes) l) i → Off bytes_at (pack_bytes bytes) i → word fresh i ≡ 0
  rest i h k = word-sets sized bytes_at i (pack_bytes bytes) k ∙ word-sets (replicate l 0) length_at i (size_words (length bytes) l) h ∙ word-zero l i

  size-words : take 3 (drop length_at fresh) ≡ size_words (length bytes) l
  size-words =
      region-same sized fresh length_at 3 (length-sets sized bytes_at (pack_bytes bytes))
      (λ i h k. word-sets sized bytes_at i (pack_bytes bytes) (inl (omega arith)))
      ∙ region-sets (replicate l 0) length_at (size_words (length bytes) l) (omega (arith, length-replicate {A = ℕ} l 0))

  byte-words : take (length (pack_bytes bytes)) (drop bytes_at fresh) ≡ pack_bytes bytes
  byte-words = region-sets sized bytes_at (pack_bytes bytes) (omega (arith, long-sized))

  pub begun-long : length (begin_words bytes l) ≡ l
  unfolding begin_words
  begun-long = long-fresh

  begun-begun : BegunFor bytes (begin_words bytes l)
  unfolding begin_words
  begun-begun = record { sizes = size-words ∙ ap (λ (n : ℕ). size_words (length bytes) n) (sym long-fresh); grammar = byte-words }

  none-held : held (begin_words bytes l) ≡ 0
  unfolding held begin_words
  none-held = rest held_at (inr (omega arith)) (inl (omega arith))

  begun-unused : (g : Grammar) (i : ℕ) → ¬ Used g bytes (begin_words bytes l) i → word (begin_words bytes l) i ≡ 0
  unfolding begin_words
  begun-unused g i n = go (off? length_at (size_words (length bytes) l) i) (off? bytes_at (pack_bytes bytes) i)
    where
      go : Off length_at (size_words (length bytes) l) i ⊎ ((length_at ≤ i) × (i < length_at + length (size_words (length bytes) l)))
          → Off bytes_at (pack_bytes bytes) i ⊎ ((bytes_at ≤ i) × (i < bytes_at + length (pack_bytes bytes))) → word fresh i ≡ 0
      go (inl h) (inl k) = rest i h k
      go (inr (h, k)) o = absurd (n (size h (omega arith)))
      go (inl h) (inr (k, m)) = absurd (n (byte (i - bytes_at) (omega arith) (omega arith)))

  no_start : (a : ℕ) → start_at a < bytes_at → start_of (begin_words bytes l) a ≡ 0
  unfolding start_of begin_words
  no_start a h = rest (start_at a) (inr (omega arith)) (inl h)

-- for a grammar that suits them
pub begun-coherent : (g : Grammar) (bytes : List ℕ) → Suits g bytes → (l : ℕ) → min_words ≤ l → Coherent g bytes (begin_words bytes l)
begun-coherent g bytes u l h =
    let e = none-held bytes u.packed l h in
    record {
      long = rw (begun-long bytes u.packed l h) h;
      begun-for = begun-begun bytes u.packed l h;
      held_fits = omega arith;
      slot = λ s k. absurd (omega arith);
      unused = begun-unused bytes u.packed l h g;
      single = λ s s' k. absurd (omega arith);
      started = λ a d n. absurd (n (no_start bytes u.packed l h a (let b = u.decisions a d in omega arith)));
      stepped = λ s t k. absurd (omega arith);
    }
