-- The goals of `learning::learn::begin` that are not found.
use native.Mathlib.Omega.{arith}
use Rattle.closing.proofs.FollowLaws.{first_small}
use Rattle.configurations.proofs.GrowSteps.{grow-packs, left-on, left-stop, left-none}
use Rattle.learning.proofs.StartLaws.{blank-left, starting-first, starting-none, starting-all, number_small}
use Rattle.learning.proofs.learn.begin.Goals as goal

pub loop-k-init : goal.loop-k-init
loop-k-init c = blank-left _ c.requires.long (starting-all _ _ c.first_places-f-items.ensures)

pub begun-requires : goal.begun-requires
begun-requires c = (
  first_small _ _ c.first_places-f-items.ensures c.requires.ready _ c.loop-k-test.true c.from.ensures,
  number_small _ _ c.first_places-f-items.ensures c.requires.ready _ c.loop-k-test.true,
)

pub returns-in_err-n : goal.returns-in_err-n
returns-in_err-n c =
    let first = starting-first _ _ c.loop-k-test.true c.from.ensures in
    rw c.from_residual.ensures (left-stop c.loop-k.invariant first (grow-packs _ c.begun.ensures c.add.ensures) c.in_err-n.was)

pub loop-k-preserved : goal.loop-k-preserved
loop-k-preserved c =
    let first = starting-first _ _ c.loop-k-test.true c.from.ensures in
    left-on c.loop-k.invariant first (grow-packs _ c.begun.ensures c.add.ensures) _ c.in_ok-n.was

pub returns : goal.returns
returns c = left-none c.loop-k.invariant (starting-none _ _ (omega arith))
