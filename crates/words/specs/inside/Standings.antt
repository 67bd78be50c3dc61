-- How a cache stands to a grammar.
use Rattle.std.specs.Prelude.{Bool, true, false, List, ℕ, ltb, length, Result, Ok, Err, ⊤}
use Rattle.words.specs.declared.standing.CacheRefusal.{CacheRefusal}
use Rattle.words.specs.declared.standing.CacheRefusal.TheVariants.{Short, Foreign}
use Rattle.words.specs.Layout.{min_words}
use Rattle.words.specs.Begin.{begun?}

-- it has begun for the grammar, or it is refused
abbrev pub Standing : Type 0
Standing = Result ⊤ CacheRefusal

-- by whether it is too short, and whether it has begun
abbrev pub standing_by : Bool → Bool → Standing
standing_by true b = Err Short
standing_by false true = Ok tt
standing_by false false = Err Foreign

-- 12, 13, or neither
unfoldable pub standing_of : List ℕ → List ℕ → Standing
unfolding begun?
standing_of bytes c = standing_by (ltb (length c) min_words) (begun? bytes c)
