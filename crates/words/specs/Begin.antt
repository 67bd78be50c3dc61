-- The words of a cache that has just begun, which words refusal 13 looks at, and what beginning answers.
use Rattle.std.specs.Prelude.{◌≡◌, Bool, ◌&&◌, cond, List, [], ◌∷◌, ℕ, ◌+◌, ◌*◌, ◌/◌, ◌%◌, ◌^◌, ltb, length, take, drop, replicate}
use Rattle.std.proofs.lemmas.List.Edits.{sets}
use Rattle.derivation.specs.Gate.{at_gate, sound_gate}
use Rattle.lookahead.specs.Closing.{same_list}
use Rattle.words.specs.Layout.{min_words, length_at, bytes_at}

-- bytes, four to a word, the first the lowest
unfoldable pub pack_bytes : List ℕ → List ℕ
pack_bytes [] = []
pack_bytes (a ∷ []) = a ∷ []
pack_bytes (a ∷ b ∷ []) = (a + 2 ^ 8 * b) ∷ []
pack_bytes (a ∷ b ∷ c ∷ []) = (a + 2 ^ 8 * b + 2 ^ 16 * c) ∷ []
pack_bytes (a ∷ b ∷ c ∷ d ∷ l) = (a + 2 ^ 8 * b + 2 ^ 16 * c + 2 ^ 24 * d) ∷ pack_bytes l

-- L in two words, and the number n of grammar bytes
abbrev pub size_words : ℕ → ℕ → List ℕ
size_words n l = l % 2 ^ 32 ∷ l / 2 ^ 32 ∷ n ∷ []

-- a cache of l words that has just begun
unfoldable pub begin_words : List ℕ → ℕ → List ℕ
unfolding pack_bytes
begin_words bytes l = sets (sets (replicate l 0) length_at (size_words (length bytes) l)) bytes_at (pack_bytes bytes)

-- begun for these grammar bytes at this length: the words that hold both say so
unfoldable pub begun? : List ℕ → List ℕ → Bool
unfolding pack_bytes same_list
begun? bytes c =
    let same = same_list (take (length (pack_bytes bytes)) (drop bytes_at c)) (pack_bytes bytes) in
    same_list (take 3 (drop length_at c)) (size_words (length bytes) (length c)) && same

-- the same with no test: the words of the sizes and of the bytes are these
pub record BegunFor (bytes c : List ℕ) : Type 0 where
  pub sizes : take 3 (drop length_at c) ≡ size_words (length bytes) (length c)
  pub grammar : take (length (pack_bytes bytes)) (drop bytes_at c) ≡ pack_bytes bytes

-- what beginning answers, and the words that it leaves
pub record Begun : Type 0 where
  pub number : ℕ
  pub place : ℕ
  pub words : List ℕ

abbrev pub begun : ℕ → ℕ → List ℕ → Begun
begun n p c = record { number = n; place = p; words = c }

-- 12, and then the cache begins
unfoldable pub begin12 : List ℕ → List ℕ → Begun
unfolding begin_words
begin12 bytes c = let fresh = begin_words bytes (length c) in cond (ltb (length c) min_words) (begun 12 0 c) (begun 0 0 fresh)

-- 1 to 7 at the gate of sound bytes, and then 12
unfoldable pub beginning : List ℕ → List ℕ → Begun
unfolding sound_gate begin12
beginning bytes c = at_gate (λ n p. begun n p c) (λ g. begin12 bytes c) (sound_gate bytes)

-- THE CONTRACT OF `begin`: a beginning that was lent these bytes and this cache answered this number and this place and left the cache so
abbrev pub BeginDid : List ℕ → List ℕ → ℕ → ℕ → List ℕ → Type 0
BeginDid bytes cache number place cache' = begun number place cache' ≡ beginning bytes cache
