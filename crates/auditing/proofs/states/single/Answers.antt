-- The goals of `auditing::states::single` that are not found.
use mathlib.Core.Bool.{not}
use mathlib.Core.Path.{refl, ap}
use native.Mathlib.Omega.{arith}
use Rattle.base.proofs.Booleans.{failed, passed}
use Rattle.base.proofs.AllLaws.{all-next, all-fails, all_done}
use Rattle.auditing.proofs.StateSteps.{single-begin, none-printed, one-printed, next-printed, state-low}
use Rattle.auditing.proofs.states.single.Goals as goal

pub loop-s-init : goal.loop-s-init
loop-s-init c = (single-begin _ c.held-s-end.ensures, none-printed _ _ refl)

pub bounds-prints-s : goal.bounds-prints-s
bounds-prints-s c = state-low _ c.requires c.held-s-end.ensures c.loop-s.s (omega arith)

pub new-requires : goal.new-requires
new-requires c =
    let low = state-low _ c.requires c.held-s-end.ensures c.loop-s.s (omega arith) in
    (omega (arith, c.held-s-end.ensures, c.requires.few), one-printed _ _ _ c.loop-s.invariant.1 low c.print_of.ensures)

pub returns-then-not-new : goal.returns-then-not-new
returns-then-not-new c = all-fails _ _ _ (omega arith) (failed c.new.ensures (ap not c.if-not-new.true)) c.loop-s.invariant.0

pub loop-s-preserved : goal.loop-s-preserved
loop-s-preserved c =
    let low = state-low _ c.requires c.held-s-end.ensures c.loop-s.s (omega arith) in (
      all-next _ _ _ (omega arith) (passed c.new.ensures (ap not c.if-not-new.false)) c.loop-s.invariant.0,
      next-printed _ _ _ (one-printed _ _ _ c.loop-s.invariant.1 low c.print_of.ensures),
    )

pub returns : goal.returns
returns c = all_done _ _ _ (omega arith) c.loop-s.invariant.0
