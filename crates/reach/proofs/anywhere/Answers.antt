-- The goals of `reach::anywhere` that are not found.
use native.Mathlib.Omega.{arith}
use Rattle.reach.proofs.LastLaws.{any-begin, any_next, any-end}
use Rattle.reach.proofs.anywhere.Goals as goal

pub loop-p-init : goal.loop-p-init
loop-p-init c = (omega arith, any-begin _ c.empty-all.ensures)

pub loop-p-preserved : goal.loop-p-preserved
loop-p-preserved c = (omega arith, any_next _ _ _ c.read-here.ensures c.union-all.ensures c.loop-p.invariant.1)

pub returns : goal.returns
returns c = any-end _ _ _ _ (omega arith) c.loop-p.invariant.1
