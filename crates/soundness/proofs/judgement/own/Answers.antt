-- The goals of `soundness::judgement::own` that are not found.
use native.Mathlib.Omega.{arith}
use Rattle.soundness.proofs.OwnLaws.{own-none, own-more, own-all}
use Rattle.soundness.proofs.judgement.own.Goals as goal

pub loop-a-init : goal.loop-a-init
loop-a-init c = (omega arith, own-none _)

pub loop-a-preserved : goal.loop-a-preserved
loop-a-preserved c = (omega arith, own-more _ _ _ c.loop-a.invariant.1 c.with.ensures)

pub returns : goal.returns
returns c = own-all _ _ (omega arith) c.loop-a.invariant.1
