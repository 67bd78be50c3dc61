-- How configurations lie in words: the digits of a packed one, and the three words of it. Besides this file and `lookahead`'s Order, only the code of `config`
-- and `words` and the laws in PackLaws, WordLaws, ExactLaws, FitLaws and CompareLaws know how wide anything is.
use Rattle.std.specs.Prelude.{Bool, ◌&&◌, List, [], ◌∷◌, ◌++◌, ℕ, zero, suc, ◌+◌, ◌*◌, ◌/◌, ◌%◌, ◌^◌, leb, length}
use Rattle.grammar.specs.Limits.{max_productions}
use Rattle.lookahead.specs.Configs.{Config, config}
use Rattle.lookahead.specs.Closing.{max_entries, max_kept}
use Rattle.lookahead.specs.Order.{past_end, place_radix, alternative_radix, entries_radix, return_radix, stack_key, head_key}

-- the lowest n digits of a number, as a stack of return places
unfoldable pub digits : ℕ → ℕ → List ℕ
digits zero x = []
digits (suc n) x = x % return_radix ∷ digits n (x / return_radix)

-- the configuration that any head and any stack key say
unfoldable pub unpack : ℕ → ℕ → Config
unfolding digits
unpack u x = config (u % place_radix) (u / place_radix % alternative_radix) (digits (u / (place_radix * alternative_radix) % entries_radix) x)

-- the numbers of a configuration are in range: a place, an alternative, and not too many return places
unfoldable pub storable? : Config → Bool
storable? k = leb k.place past_end && (leb 1 k.alternative && (leb k.alternative max_productions && leb (length k.stack) max_entries))

-- ---- rows of words
-- the words of a configuration
abbrev pub config_words : ℕ
config_words = 3

-- the words that a state of the most configurations needs
abbrev pub max_kept_words : ℕ
max_kept_words = config_words * max_kept

-- the numbers that a word can be
abbrev pub word_radix : ℕ
word_radix = 2 ^ 32

-- the words of a configuration, and of some
unfoldable pub pack : Config → List ℕ
unfolding head_key stack_key
pack c = head_key c ∷ stack_key c.stack % word_radix ∷ stack_key c.stack / word_radix ∷ []

unfoldable pub pack_all : List Config → List ℕ
unfolding pack
pack_all [] = []
pack_all (c ∷ l) = pack c ++ pack_all l

-- the configurations that any words say; words too few for one more say none
unfoldable pub unpack_all : List ℕ → List Config
unfolding unpack
unpack_all [] = []
unpack_all (u ∷ []) = []
unpack_all (u ∷ v ∷ []) = []
unpack_all (u ∷ v ∷ w ∷ l) = unpack u (v + word_radix * w) ∷ unpack_all l
