-- `search::words::Size::tag_of` meets its contract: the words of the tags are in the slice.
use native.Mathlib.Omega.{arith}
use Rattle.search.proofs.WordLaws.{pair_small, tag-inside}
use Rattle.search.proofs.words.Size.tag_of.Goals as goal

pub offset_bounds-ws-tag_at : goal.offset_bounds-ws-tag_at
offset_bounds-ws-tag_at c = omega (arith, c.tag_at.ensures, pair_small c.requires.pair, c.requires.pair.small.tokens)

pub bounds-ws-tag_at : goal.bounds-ws-tag_at
bounds-ws-tag_at c = omega (arith, c.tag_at.ensures, tag-inside c.requires.pair, c.requires.room)

pub returns : goal.returns
returns c = cc
