-- The goals of `corners::moves::moves` that are not found.
use native.Mathlib.Omega.{arith}
use Rattle.corners.proofs.LeftSteps.{moves-begin, moves_next, moves-done}
use Rattle.corners.proofs.moves.moves.Goals as goal

pub loop-first-init : goal.loop-first-init
loop-first-init c = moves-begin _ _ _ _ c.first_places-first-items.ensures

pub loop-first-preserved : goal.loop-first-preserved
loop-first-preserved c = moves_next _ _ _ _ _ _ c.loop-first.invariant _ _ c.loop-first-test.true c.from.ensures c.left_from-set.ensures

pub returns : goal.returns
returns c =
    moves-done _ _ _ c.first_places-first-items.result.now _ c.loop-first.first-index c.loop-first.invariant (omega arith)
