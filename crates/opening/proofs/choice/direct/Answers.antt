-- `opening::choice::direct` meets its contract: the only alternative, the lowest that derives the empty row, or that of a single end; else it tells nothing.
use mathlib.Core.Bool.{not}
use mathlib.Core.Path.{ap}
use native.Mathlib.Omega.{arith}
use Rattle.search.proofs.ReplyLaws.{pair-asked, masks-asked}
use Rattle.opening.proofs.KeptLaws.{asks-on}
use Rattle.opening.proofs.DirectLaws.{taken-only, taken-empty, taken_none, taken-single}
use Rattle.opening.proofs.choice.direct.Goals as goal

pub returns-then-alternatives-lt2 : goal.returns-then-alternatives-lt2
returns-then-alternatives-lt2 c = taken-only c.requires _ c.alternatives.ensures (omega arith)

pub starts-requires : goal.starts-requires
starts-requires c = masks-asked c.requires c.token_at-t.ensures

pub empty-requires : goal.empty-requires
empty-requires c = (c.requires.searching.given.ready.fits, c.requires.pair.0)

pub returns-then-not-starts : goal.returns-then-not-starts
returns-then-not-starts c =
    taken-empty c.requires _ c.token_at-t.ensures c.starts.ensures (ap not c.if-not-starts.true) c.nullable.ensures
    c.empty.ensures

pub returns-then-left-eq0 : goal.returns-then-left-eq0
returns-then-left-eq0 c = taken_none c.requires _ c.asked-left.ensures (omega arith)

pub tag_of-requires : goal.tag_of-requires
tag_of-requires c = pair-asked (asks-on c.requires c.asked-left.ensures.kept c.asked-left.ensures.holds)

pub returns-in-None : goal.returns-in-None
returns-in-None c = taken_none c.requires _ c.asked-left.ensures (omega arith)

pub returns-in-One : goal.returns-in-One
returns-in-One c = taken-single c.requires _ c.asked-left.ensures c.if-left-eq0.false c.tag_of.ensures c.in-One.is

pub returns-in-Several : goal.returns-in-Several
returns-in-Several c = taken_none c.requires _ c.asked-left.ensures (omega arith)
