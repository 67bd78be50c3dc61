-- `opening::choice::asked` meets its contract: a pair that is worked out is left as it is, and any other one is worked out now.
use Rattle.opening.proofs.DirectLaws.{asked-before, asked-now, asked-out}
use Rattle.opening.proofs.choice.asked.Goals as goal

pub returns-then-is_done : goal.returns-then-is_done
returns-then-is_done c = asked-before c.requires _ c.is_done.ensures c.if-is_done.true

pub returns-in-Ok : goal.returns-in-Ok
returns-in-Ok c = asked-now c.in-Ok.ensures

pub returns-in-Err : goal.returns-in-Err
returns-in-Err c = asked-out c.settle.ensures
