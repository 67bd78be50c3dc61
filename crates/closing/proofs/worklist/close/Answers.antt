-- The goals of `closing::worklist::close` that are not found.
use mathlib.Core.Path.{refl}
use native.Mathlib.Omega.{arith}
use Rattle.configurations.proofs.HeldLaws.{member-has}
use Rattle.configurations.proofs.GrowSteps.{grow-room}
use Rattle.closing.proofs.WorklistLaws.{close-on, close-stop, close-end, next-movable}
use Rattle.closing.proofs.worklist.close.Goals as goal

pub loop-k-init : goal.loop-k-init
loop-k-init c = (c.requires.1, refl)

pub member-c-requires : goal.member-c-requires
member-c-requires c = member-has c.loop-k.invariant.0 _ c.loop-k-test.true

pub follow-requires : goal.follow-requires
follow-requires c = next-movable c.requires.0 c.loop-k.invariant.0 c.loop-k-test.true c.member-c.ensures

pub returns-in_err-n : goal.returns-in_err-n
returns-in_err-n c =
    rw c.from_residual.ensures
    (close-stop _ _ _ _ c.loop-k.invariant.1 c.loop-k-test.true c.loop-k.invariant.0.few c.member-c.ensures
    c.follow.ensures c.in_err-n.was)

pub overflow_add-k : goal.overflow_add-k
overflow_add-k c = omega (arith, c.loop-k.invariant.0.few)

pub loop-k-smaller : goal.loop-k-smaller
loop-k-smaller c = omega (arith, c.loop-k.invariant.0.few)

pub loop-k-preserved : goal.loop-k-preserved
loop-k-preserved c =
    let grown = c.follow.ensures in
    let next = close-on _ _ _ _ c.loop-k.invariant.1 c.loop-k-test.true c.loop-k.invariant.0.few c.member-c.ensures grown _
    c.in_ok-n.was in
    (grow-room grown _ c.in_ok-n.was, next)

pub returns : goal.returns
returns c = close-end _ _ _ _ c.loop-k.invariant.1 (omega arith) c.loop-k.invariant.0
