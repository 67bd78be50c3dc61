-- What the search keeps in the words that else hold the cells: for each position the set of nonterminals of which the pair is worked out; a tag for each
-- pair; a set of positions for each; and the pairs that wait. Of N nonterminals and a note of n tokens.
use Rattle.std.specs.Prelude.{◌≡◌, Bool, ◌&&◌, cond, List, ℕ, suc, ◌+◌, ◌*◌, ◌/◌, ◌%◌, ◌-◌, ◌≤◌, ◌<◌, eqb, leb, ltb, length, get_or}
use Rattle.base.specs.Bits.{test_bit}
use Rattle.positions.specs.inside.Positions.{set_words, member}
use Rattle.positions.specs.inside.Words.{set_at}
use Rattle.filtering.specs.inside.Tags as ends
use Rattle.filtering.specs.inside.Known.{State}
use Rattle.search.specs.declared.words.Tag.{Tag}
use Rattle.search.specs.declared.words.Tag.TheVariants.{None, One, Several}

-- the number of pair (a, i)
abbrev pub pair_at : ℕ → ℕ → ℕ → ℕ
pair_at N a i = i * N + a

-- where its tag stands, behind the n + 1 words of sets of nonterminals
abbrev pub tag_at : ℕ → ℕ → ℕ → ℕ → ℕ
tag_at N n a i = suc n + pair_at N a i

-- where its set stands
abbrev pub pair_set : ℕ → ℕ → ℕ → ℕ → ℕ
pair_set N n a i = suc n * suc N + set_words * pair_at N a i

-- where the pairs that wait begin
abbrev pub waits_at : ℕ → ℕ → ℕ
waits_at N n = suc n * suc (6 * N)

-- how many can wait: all that there are
abbrev pub pair_count : ℕ → ℕ → ℕ
pair_count N n = N * suc n

-- the words of the search
abbrev pub search_words : ℕ → ℕ → ℕ
search_words N n = suc n * suc (7 * N)

-- ---- tags
-- a word above the position counts alternatives by so much, and has this more where a second one gives the end
abbrev pub per_alternative : ℕ
per_alternative = 256

abbrev pub second_bit : ℕ
second_bit = 8192

-- the low part of a word that says several
abbrev pub several_ends : ℕ
several_ends = 255

-- the tag of a word: position + 1, 0 for none, 255 for several; above it the alternative, and whether there is a second one
unfoldable pub tag_from : ℕ → Tag
tag_from w =
    let one = One (w % per_alternative - 1) (w / per_alternative % 32) (leb second_bit w) in
    cond (eqb (w % per_alternative) 0) None (cond (eqb (w % per_alternative) several_ends) Several one)

-- a tag fits a word: the end is a position of a note, and the alternative is one that a grammar may have
abbrev pub TagFits : Tag → Type 0
TagFits None = Unit {0}
TagFits (One m b more) = (m ≤ 128) × (b < 32)
TagFits Several = Unit {0}

-- a tag of the code, with its set, as one of the laws
abbrev pub tag_of : Tag → List ℕ → ends.Tag
tag_of None s = ends.no_end
tag_of (One m b more) s = ends.one_end m b more
tag_of Several s = ends.ends (member s)

-- ---- the state that words say
-- pair (a, i) is worked out
unfoldable pub done_in : ℕ → ℕ → List ℕ → ℕ → ℕ → Bool
done_in N n ws a i = (ltb a N && leb i n) && test_bit (get_or ws i 0) a

-- its tag
unfoldable pub tag_in : ℕ → ℕ → List ℕ → ℕ → ℕ → ends.Tag
unfolding tag_from
tag_in N n ws a i = tag_of (tag_from (get_or ws (tag_at N n a i) 0)) (set_at ws (pair_set N n a i))

abbrev pub state_in : ℕ → ℕ → List ℕ → State
state_in N n ws = record { done = done_in N n ws; tag = tag_in N n ws }

-- the words from `from` on are as they were
pub record Kept (from : ℕ) (ws after : List ℕ) : Type 0 where
  pub long : length after ≡ length ws
  pub word : (j : ℕ) → from ≤ j → get_or after j 0 ≡ get_or ws j 0
