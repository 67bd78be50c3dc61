-- The goals of `cache::recording::store` that are not found.
use mathlib.Core.Path.{refl}
use lib.ListN.{length-set}
use native.Mathlib.Omega.{arith}
use Rattle.cache.proofs.StateSteps.{stored-begins, stored_next, stored-ends}
use Rattle.cache.proofs.recording.store.Goals as goal

pub loop-k-init : goal.loop-k-init
loop-k-init c = (stored-begins _ _ _, refl)

pub loop-k-preserved : goal.loop-k-preserved
loop-k-preserved c = (stored_next _ _ _ _ _ c.loop-k.invariant.0 c.loop-k-test.true refl, simp length-set (omega arith))

pub returns : goal.returns
returns c = stored-ends _ _ _ _ _ c.loop-k.invariant.0 (omega arith)
