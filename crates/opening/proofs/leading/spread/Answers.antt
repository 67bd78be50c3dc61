-- The goals of `opening::leading::spread` that are not found.
use native.Mathlib.Omega.{arith}
use Rattle.opening.proofs.LeadLaws.{turned-settled, turned-walked, wants-called, scattered-there}
use Rattle.opening.proofs.leading.spread.Goals as goal

pub returns-in-Ok : goal.returns-in-Ok
returns-in-Ok c =
    scattered-there (turned-walked c.loop-to.invariant c.walk.ensures.spent c.walk.ensures.raised) c.in-Ok.ensures.walked

pub loop-to-preserved : goal.loop-to-preserved
loop-to-preserved c =
    let paid = c.in_ok-pay-in-Err-Needs.ensures in
    let wanted = rw c.in-Err-Needs.field-0-is at c.in-Err-Needs.ensures in
    turned-settled (turned-walked c.loop-to.invariant c.walk.ensures.spent c.walk.ensures.raised) c.settle.ensures
    (wants-called wanted.walked) (omega (arith, paid.0)) paid.1
