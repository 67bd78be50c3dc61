-- The goals of `corners::reaching::reach` that are not found.
use mathlib.Core.Path.{refl, ap, ◌∙◌}
use Prim.Native.Nat.{ℕ}
use native.Mathlib.Omega.{arith}
use Rattle.corners.specs.inside.Steps.{reach_of}
use Rattle.corners.proofs.LeftSteps.{reach-pivot, reach-empty}
use Rattle.corners.proofs.reaching.reach.Goals as goal
use Rattle.corners.proofs.reaching.reach.Goals.{then-row-ne0, else-row-ne0}

pub loop-b-init : goal.loop-b-init
unfolding reach_of
loop-b-init c = (refl, refl)

pub loop-b-preserved : goal.loop-b-preserved
loop-b-preserved c =
    elim c.if-row-ne0.branch [
      | then-row-ne0 w ↦
          rw w.rows-is (omega (arith, w.through.auto.rows), reach-pivot _ _ _ _ c.loop-b.invariant.1 refl w.if-row-ne0.true w.through.ensures)
      | else-row-ne0 w ↦ rw w.rows-is (c.loop-b.invariant.0, reach-empty _ _ _ _ c.loop-b.invariant.1 refl w.if-row-ne0.false)
    ]

pub returns : goal.returns
returns c = c.loop-b.invariant.1 ∙ ap (λ (k : ℕ). reach_of c.args.n k c.args.rows.now) (omega arith)
