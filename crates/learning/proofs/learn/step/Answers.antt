-- `learning::learn::step` meets its contract: what is advanced is finished, and too many at once are FULL.
use Rattle.configurations.proofs.GrowSteps.{grow-room}
use Rattle.learning.proofs.OutcomeLaws.{step-full, step-on}
use Rattle.learning.proofs.learn.step.Goals as goal

pub returns-in_default : goal.returns-in_default
returns-in_default c = step-full _ _ _ c.advance.ensures c.in_default.is _

pub finish-requires : goal.finish-requires
finish-requires c = (c.requires.0, grow-room c.advance.ensures _ c.in-Some.is)

pub returns : goal.returns
returns c = step-on _ _ _ c.advance.ensures _ c.in-Some.is _ _ c.finish.ensures
