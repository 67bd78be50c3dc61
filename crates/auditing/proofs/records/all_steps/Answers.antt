-- The goals of `auditing::records::all_steps` that are not found.
use mathlib.Core.Bool.{not}
use mathlib.Core.Path.{ap}
use native.Mathlib.Omega.{arith}
use Rattle.base.proofs.Booleans.{failed, passed}
use Rattle.base.proofs.AllLaws.{all-next, all-fails, all_done}
use Rattle.auditing.proofs.RecordSteps.{all-steps-begin}
use Rattle.auditing.proofs.records.all_steps.Goals as goal

pub loop-s-init : goal.loop-s-init
loop-s-init c = (all-steps-begin _ _ c.held-s-end.ensures, c.requires.long)

pub steps-requires : goal.steps-requires
steps-requires c =
    (record { ready = c.requires.ready; words = c.requires.words; long = c.loop-s.invariant.1 }, omega (arith, c.held-s-end.ensures))

pub returns-then-not-steps : goal.returns-then-not-steps
returns-then-not-steps c = all-fails _ _ _ (omega arith) (failed c.steps.ensures (ap not c.if-not-steps.true)) c.loop-s.invariant.0

pub loop-s-preserved : goal.loop-s-preserved
loop-s-preserved c = (
  all-next _ _ _ (omega arith) (passed c.steps.ensures (ap not c.if-not-steps.false)) c.loop-s.invariant.0,
  omega (arith, c.steps.auto.members, c.loop-s.invariant.1),
)

pub returns : goal.returns
returns c = all_done _ _ _ (omega arith) c.loop-s.invariant.0
