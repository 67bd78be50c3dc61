-- The goals of `closing::worklist::enter` that are not found.
use mathlib.Core.Path.{ap}
use native.Mathlib.Omega.{arith}
use Rattle.lookahead.specs.Closing.{add_all}
use Rattle.configurations.proofs.GrowSteps.{left-on, left-stop, left-none}
use Rattle.closing.proofs.FollowLaws.{entering-first, entering-none, entering-all, first_small}
use Rattle.closing.proofs.worklist.enter.Goals as goal

pub loop-f-init : goal.loop-f-init
loop-f-init c = record { room = c.requires.0.room; same = ap (add_all _) (entering-all _ _ c.first_places-f-items.ensures _) }

pub push-requires : goal.push-requires
push-requires c =
    let small = first_small _ _ c.first_places-f-items.ensures c.requires.0.ready _ c.loop-f-test.true c.from.ensures in
    (c.loop-f.invariant.room, record { exact = c.requires.0.exact; before = c.requires.1.before; begins = omega arith })

pub returns-in_err-n : goal.returns-in_err-n
returns-in_err-n c =
    let first = entering-first _ _ _ c.loop-f-test.true c.from.ensures in
    rw c.from_residual.ensures (left-stop c.loop-f.invariant first c.push.ensures c.in_err-n.was)

pub loop-f-preserved : goal.loop-f-preserved
loop-f-preserved c =
    let first = entering-first _ _ _ c.loop-f-test.true c.from.ensures in
    left-on c.loop-f.invariant first c.push.ensures _ c.in_ok-n.was

pub returns : goal.returns
returns c = left-none c.loop-f.invariant (entering-none _ _ _ (omega arith))
