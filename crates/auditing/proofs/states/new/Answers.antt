-- The goals of `auditing::states::new` that are not found.
use native.Mathlib.Omega.{arith}
use Rattle.base.proofs.AllLaws.{all-next, all-fails, all_done}
use Rattle.auditing.proofs.StateSteps.{new-begin, found-equal, found-other, other-print}
use Rattle.auditing.proofs.states.new.Goals.{else-prints-p-via-then-prints-p+else-equal, else-prints-p-via-else-prints-p}
use Rattle.auditing.proofs.states.new.Goals as goal

pub loop-p-init : goal.loop-p-init
loop-p-init c = new-begin _ _

pub returns-then-equal : goal.returns-then-equal
returns-then-equal c = all-fails _ _ _ (omega arith) (found-equal _ _ _ c.equal.ensures c.if-equal.true) c.loop-p.invariant

pub loop-p-preserved : goal.loop-p-preserved
loop-p-preserved c = all-next _ _ _ (omega arith) (elim c.else-prints-p.branch [
  | else-prints-p-via-then-prints-p+else-equal w ↦ found-other _ _ _ w.equal.ensures w.if-equal.false
  | else-prints-p-via-else-prints-p w ↦ other-print _ _ _ c.args.prints.now c.requires.1 (omega arith) w.if-prints-p.false
]) c.loop-p.invariant

pub returns : goal.returns
returns c = all_done _ _ _ (omega arith) c.loop-p.invariant
