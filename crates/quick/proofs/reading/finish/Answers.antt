-- `quick::reading::finish` meets its contract: an accepted note needs no judging, and any other is refused.
use Rattle.machine.proofs.EndingLaws.{end-accepted, by-outcome}
use Rattle.quick.proofs.reading.finish.Goals as goal

pub clear_from-requires : goal.clear_from-requires
clear_from-requires c = c.requires.within _ c.in-Accepted.is

pub returns-in-Accepted : goal.returns-in-Accepted
returns-in-Accepted c =
    by-outcome _ _ _ c.in-Accepted.is
    (end-accepted _ _ _ _ (c.requires.within _ c.in-Accepted.is) c.clear_from.ensures)

pub returns-in-Stuck : goal.returns-in-Stuck
returns-in-Stuck c = by-outcome _ _ _ c.in-Stuck.is c.refuse.ensures

pub returns-in-Full : goal.returns-in-Full
returns-in-Full c = by-outcome _ _ _ c.in-Full.is c.refuse-in-Full.ensures
