-- `learning::learn::start` meets its contract: what begins is finished, and too many at once are FULL.
use Rattle.configurations.proofs.GrowSteps.{grow-room}
use Rattle.learning.proofs.OutcomeLaws.{start-full, start-on}
use Rattle.learning.proofs.learn.start.Goals as goal

pub returns-in_default : goal.returns-in_default
returns-in_default c = start-full _ _ c.begin.ensures c.in_default.is _

pub finish-requires : goal.finish-requires
finish-requires c = (c.requires.ready, grow-room c.begin.ensures _ c.in-Some.is)

pub returns : goal.returns
returns c = start-on _ _ c.begin.ensures _ c.in-Some.is _ _ c.finish.ensures
