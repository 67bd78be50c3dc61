-- `search::words::Size::store` meets its contract: the tag, the bit and, where there are several ends, the set are put, each in its own place.
use mathlib.Core.Path.{◌≡◌}
use native.Mathlib.Omega.{arith}
use lib.ListN.{length, length-set}
use borrow.Author.Rules.{rules}
use Rattle.positions.specs.inside.Positions.{set_words}
use Rattle.search.proofs.WordLaws.{pair_small, tag-inside, set-in}
use Rattle.search.proofs.StoreLaws.{same_none, same-one, store-plain, store-several}
use Rattle.search.proofs.words.Size.store.Goals as goal

pub offset_bounds-ws-tag_at : goal.offset_bounds-ws-tag_at
offset_bounds-ws-tag_at c = let at = c.requires.0.pair in omega (arith, c.tag_at.ensures, pair_small at, at.small.tokens)

pub bounds-ws-tag_at : goal.bounds-ws-tag_at
bounds-ws-tag_at c = omega (arith, c.tag_at.ensures, tag-inside c.requires.0.pair, c.requires.0.room)

pub bounds-ws-pair : goal.bounds-ws-pair
bounds-ws-pair c = simp length-set (omega (arith, c.requires.0.pair.position, c.requires.0.room))

pub bounds-ws-pair-2 : goal.bounds-ws-pair-2
bounds-ws-pair-2 c = simp length-set (omega (arith, c.requires.0.pair.position, c.requires.0.room))

pub put-requires : goal.put-requires
put-requires c = simp length-set (omega (arith, c.set_at.ensures, set-in c.requires.0.pair, c.requires.0.room))

pub returns-in-None : goal.returns-in-None
returns-in-None c =
    let at = c.requires.0.pair in
    store-plain _ _ _ _ at.nonterminal at.position _ c.requires.0.room _ c.tag_at.ensures c.tag_word.ensures c.with.ensures _
    (same_none c.in-None.is)

pub returns-in-One : goal.returns-in-One
returns-in-One c =
    let at = c.requires.0.pair in
    store-plain _ _ _ _ at.nonterminal at.position _ c.requires.0.room _ c.tag_at.ensures c.tag_word.ensures c.with.ensures _
    (same-one c.in-One.is)

pub returns-in-Several : goal.returns-in-Several
returns-in-Several c =
    let whole : length c.args.ends.words ≡ set_words = search rules in
    let at = c.requires.0.pair in
    store-several _ _ _ _ at.nonterminal at.position _ c.requires.0.room _ c.tag_at.ensures c.tag_word.ensures c.with.ensures _ whole
    c.set_at.ensures c.put.ensures

pub shape_of-ws-in-Several : goal.shape_of-ws-in-Several
shape_of-ws-in-Several c = (returns-in-Several c).0.long
