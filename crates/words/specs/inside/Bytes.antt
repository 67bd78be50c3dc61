-- The two parts of what refusal 13 looks at, lengths and grammar bytes, and the bytes a word at a time.
use Rattle.std.specs.Prelude.{Bool, List, ℕ, ◌+◌, ◌*◌, ◌^◌, length, get_or, take, drop}
use Rattle.lookahead.specs.Closing.{same_list}
use Rattle.words.specs.Layout.{length_at, bytes_at}
use Rattle.words.specs.Begin.{size_words, pack_bytes}

-- four bytes as a word, the first the lowest
abbrev pub word_of_bytes : ℕ → ℕ → ℕ → ℕ → ℕ
word_of_bytes a b c d = a + 2 ^ 8 * b + 2 ^ 16 * c + 2 ^ 24 * d

-- the word of the four bytes from byte i on; those past the end are 0
unfoldable pub word_at : List ℕ → ℕ → ℕ
word_at bytes i = word_of_bytes (get_or bytes i 0) (get_or bytes (i + 1) 0) (get_or bytes (i + 2) 0) (get_or bytes (i + 3) 0)

-- a list begins with these words
unfoldable pub starts_with : List ℕ → List ℕ → Bool
unfolding same_list
starts_with c ws = same_list (take (length ws) c) ws

-- the words of the lengths say the cache's, and n bytes
unfoldable pub sizes_held : ℕ → List ℕ → Bool
unfolding same_list
sizes_held n c = same_list (take 3 (drop length_at c)) (size_words n (length c))

-- the words of the bytes say these
unfoldable pub bytes_held : List ℕ → List ℕ → Bool
unfolding starts_with pack_bytes
bytes_held bytes c = starts_with (drop bytes_at c) (pack_bytes bytes)
