-- A state's print: one number made from its decision and its words, their sum. Equal states have equal prints, and so only states with the same print are
-- compared.
use Rattle.std.specs.Prelude.{List, ℕ, ◌+◌, sum}
use Rattle.words.specs.Words.{decision, kept_words}

-- of the state of slot s
unfoldable pub print_of : List ℕ → ℕ → ℕ
unfolding decision kept_words
print_of c s = decision c s + sum (kept_words c s)
