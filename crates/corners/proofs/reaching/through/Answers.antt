-- The goals of `corners::reaching::through` that are not found.
use mathlib.Core.Path.{refl, ap, ◌∙◌}
use Prim.Native.Nat.{ℕ}
use native.Mathlib.Omega.{arith}
use lib.ListN.{length-set}
use Rattle.corners.specs.inside.Steps.{pivot_below}
use Rattle.corners.proofs.LeftSteps.{through-more}
use Rattle.corners.proofs.reaching.through.Goals as goal

pub loop-a-init : goal.loop-a-init
unfolding pivot_below
loop-a-init c = (refl, refl)

pub loop-a-preserved : goal.loop-a-preserved
loop-a-preserved c = (simp length-set c.loop-a.invariant.0, through-more _ _ _ _ _ c.loop-a.invariant.1 c.joined.ensures)

pub returns : goal.returns
returns c = c.loop-a.invariant.1 ∙ ap (λ (k : ℕ). pivot_below c.args.row c.args.b k c.args.rows.now) (omega arith)
