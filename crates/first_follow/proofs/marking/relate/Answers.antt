-- `first_follow::marking::relate` meets its contract: the pass begins with words that are all 0, and what it gathers, closed, gives the sets of every kind.
use mathlib.Core.Path.{refl}
use Rattle.first_follow.proofs.PassLaws.{gather_none}
use Rattle.first_follow.proofs.MarkLaws.{related-requires, related-done}
use Rattle.first_follow.proofs.marking.relate.Goals as goal

pub gather-requires : goal.gather-requires
gather-requires c = (
  c.requires.0,
  c.requires.1,
  gather_none _ _ c.requires.2 refl refl refl,
)

pub mark_kinds-requires : goal.mark_kinds-requires
mark_kinds-requires c =
    related-requires _ c.requires.0 _ c.gather.ensures c.nonterminals-n.ensures c.with.ensures
    c.reach.ensures c.reach-2.ensures c.kinds-kinds.ensures

pub returns : goal.returns
returns c = (
  c.mark_kinds.ensures.0,
  related-done _ c.requires.0 _ c.gather.ensures c.nonterminals-n.ensures c.with.ensures
      c.reach.ensures c.reach-2.ensures c.kinds-kinds.ensures _ c.mark_kinds.ensures.1,
)
