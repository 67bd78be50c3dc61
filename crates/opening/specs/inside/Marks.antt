-- Marks of open frames in words.
use Rattle.std.specs.Prelude.{Bool, ◌&&◌, cond, List, ℕ, suc, ◌+◌, ◌*◌, ◌<◌, eqb, ltb, get_or, set}
use Rattle.grammar.specs.Grammar.{Grammar}
use Rattle.positions.specs.inside.Positions.{position_count, member}
use Rattle.derivation.specs.Runs.{Opens}
use Rattle.derivation.specs.inside.Frames.{frame_words, returns_of}

-- the mark of frame k
abbrev pub mark_at : List ℕ → ℕ → ℕ → ℕ
mark_at ws base k = get_or ws (base + frame_words * k + 1) 0

-- frame k has a mark, and it is j
unfoldable pub meets_of : List ℕ → ℕ → ℕ → ℕ → ℕ → Bool
meets_of ws base known k j = ltb k known && eqb (mark_at ws base k) j

-- the words with j as the mark of frame k, if it has none
unfoldable pub mark_if_new : List ℕ → ℕ → ℕ → ℕ → ℕ → List ℕ
mark_if_new ws base known k j = cond (ltb k known) ws (set ws (base + frame_words * k + 1) j)

-- frame k has a mark, and it is among the positions of the set x
unfoldable pub holds_of : List ℕ → ℕ → ℕ → ℕ → List ℕ → Bool
holds_of ws base known k x = ltb k known && (ltb (mark_at ws base k) position_count && member x (mark_at ws base k))

-- from its mark each of the lowest `known` frames derives the rest of w with all below it
abbrev pub Marks : Grammar → List ℕ → List ℕ → ℕ → ℕ → Type 0
Marks g w ws base known = (k : ℕ) → k < known → Opens g w (returns_of ws base (suc k)) (mark_at ws base k)
