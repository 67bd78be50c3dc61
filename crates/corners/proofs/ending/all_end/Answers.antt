-- The goals of `corners::ending::all_end` that are not found.
use mathlib.Core.Path.{◌∙◌}
use Rattle.base.proofs.Booleans.{clash}
use Rattle.corners.proofs.EndingLaws.{ending-round, ending-all}
use Rattle.corners.proofs.ending.all_end.Goals as goal

pub loop-init : goal.loop-init
loop-init c = c.requires.2

pub returns-then-next-all : goal.returns-then-next-all
returns-then-next-all c =
    λ e. ending-all _ _ (ending-round _ _ _ c.loop.invariant c.round-next.ensures) (c.if-next-all.true ∙ c.below-all.ensures)

pub returns-then-next-set : goal.returns-then-next-set
returns-then-next-set c = λ e. clash (cc)

pub loop-preserved : goal.loop-preserved
loop-preserved c = ending-round _ _ _ c.loop.invariant c.round-next.ensures

pub returns : goal.returns
returns c = λ e. clash (cc)
