-- `reach::mark` meets its contract: a point that stands already adds nothing, and any other joins the set of its place.
use Rattle.reach.proofs.AddLaws.{mark-held, mark-adds}
use Rattle.reach.proofs.mark.Goals as goal

pub returns-then-holds : goal.returns-then-holds
returns-then-holds c = mark-held _ _ _ c.holds.ensures c.if-holds.true

pub returns : goal.returns
returns c =
    mark-adds c.requires.long c.requires.place c.requires.position c.empty.ensures c.with-s.ensures
    c.join.ensures
