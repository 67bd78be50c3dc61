-- The goals of `auditing::records::starts` that are not found.
use mathlib.Core.Bool.{not}
use mathlib.Core.Path.{ap}
use native.Mathlib.Omega.{arith}
use Rattle.base.proofs.Booleans.{failed, passed}
use Rattle.base.proofs.AllLaws.{all-begin, all-next, all-fails, all_done}
use Rattle.auditing.proofs.records.starts.Goals as goal

pub loop-a-init : goal.loop-a-init
loop-a-init c = (all-begin _ _, c.requires.long)

pub start-requires : goal.start-requires
start-requires c = (record { ready = c.requires.ready; words = c.requires.words; long = c.loop-a.invariant.1 }, omega arith)

pub returns-then-not-start : goal.returns-then-not-start
returns-then-not-start c = all-fails _ _ _ (omega arith) (failed c.start.ensures (ap not c.if-not-start.true)) c.loop-a.invariant.0

pub loop-a-preserved : goal.loop-a-preserved
loop-a-preserved c = (
  all-next _ _ _ (omega arith) (passed c.start.ensures (ap not c.if-not-start.false)) c.loop-a.invariant.0,
  omega (arith, c.start.auto.members, c.loop-a.invariant.1),
)

pub returns : goal.returns
returns c = all_done _ _ _ (omega arith) c.loop-a.invariant.0
