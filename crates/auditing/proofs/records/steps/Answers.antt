-- The goals of `auditing::records::steps` that are not found.
use mathlib.Core.Bool.{not}
use mathlib.Core.Path.{ap}
use native.Mathlib.Omega.{arith}
use Rattle.base.proofs.Booleans.{failed, passed}
use Rattle.base.proofs.AllLaws.{all-next, all-fails, all_done}
use Rattle.auditing.proofs.LayoutSteps.{ready-kinds}
use Rattle.auditing.proofs.RecordSteps.{steps-begin}
use Rattle.auditing.proofs.records.steps.Goals as goal

pub loop-t-init : goal.loop-t-init
loop-t-init c = (steps-begin _ _ _ c.kinds-t-end.ensures, c.requires.0.long)

pub step-requires : goal.step-requires
step-requires c =
    let few = ready-kinds c.requires.0.ready in (
      record { ready = c.requires.0.ready; words = c.requires.0.words; long = c.loop-t.invariant.1 },
      c.requires.1,
      omega (arith, c.kinds-t-end.ensures),
    )

pub returns-then-not-step : goal.returns-then-not-step
returns-then-not-step c = all-fails _ _ _ (omega arith) (failed c.step.ensures (ap not c.if-not-step.true)) c.loop-t.invariant.0

pub loop-t-preserved : goal.loop-t-preserved
loop-t-preserved c = (
  all-next _ _ _ (omega arith) (passed c.step.ensures (ap not c.if-not-step.false)) c.loop-t.invariant.0,
  omega (arith, c.step.auto.members, c.loop-t.invariant.1),
)

pub returns-else-not-step : goal.returns-else-not-step
returns-else-not-step c =
    all_done _ _ _ (omega arith) (all-next _ _ _ (omega arith) (passed c.step.ensures (ap not c.if-not-step.false)) c.loop-t.invariant.0)

pub returns : goal.returns
returns c = all_done _ _ _ (omega arith) c.loop-t.invariant.0
