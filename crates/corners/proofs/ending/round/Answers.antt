-- The goals of `corners::ending::round` that are not found.
use mathlib.Core.Path.{refl, ◌∙◌}
use lib.ListN.{length-take}
use lib.Seq.{get_or-take}
use native.Mathlib.Omega.{arith}
use Rattle.corners.specs.inside.Ending.{ended_below}
use Rattle.corners.proofs.EndingLaws.{ended-more}
use Rattle.corners.proofs.ending.round.Goals as goal

pub loop-a-init : goal.loop-a-init
unfolding ended_below
loop-a-init c = refl

pub loop-a-preserved : goal.loop-a-preserved
loop-a-preserved c =
    ended-more _ _ _ c.loop-a.invariant
    (c.ended-next.ensures ∙ rw (get_or-take c.args.n c.args.rows.now c.loop-a.a 0 (omega (arith, length-take c.args.n c.args.rows.now))))
