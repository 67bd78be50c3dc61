-- The goals of `words::bytes::write_bytes` that are not found.
use Rattle.words.proofs.PackSteps.{store-next, store-end, store-begins}
use lib.ListN.{length-set}
use native.Mathlib.Omega.{arith}
use mathlib.Core.Path.{refl}
use Rattle.words.proofs.bytes.write_bytes.Goals as goal

pub loop-i-init : goal.loop-i-init
loop-i-init c = (store-begins _ _, refl, omega arith)

pub loop-i-preserved : goal.loop-i-preserved
loop-i-preserved c = (store-next _ _ _ _ _ c.loop-i.invariant.0 (omega arith) c.word_at.ensures, simp length-set (omega arith), omega arith)

pub returns : goal.returns
returns c = store-end _ _ _ _ _ c.loop-i.invariant.0 (omega arith)
