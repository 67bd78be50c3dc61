-- The goals of `positions::Positions::least` that are not found.
use native.Mathlib.Omega.{arith}
use Rattle.base.specs.Bits.{word_bits}
use Rattle.positions.proofs.NextLaws.{clear_none, all-clear, word-found, word-clear}
use Rattle.positions.proofs.Positions.least.Goals as goal

pub loop-w-init : goal.loop-w-init
loop-w-init c = (omega arith, omega arith, clear_none _ _ _ (omega arith))

pub returns-in-Some : goal.returns-in-Some
returns-in-Some c =
    let bit = c.in-Some.ensures in (omega arith, word-found _ _ _ _ _ c.loop-w.invariant.2 bit.1 (omega arith) (omega arith) bit.0)

pub loop-w-preserved : goal.loop-w-preserved
loop-w-preserved c = (omega arith, omega arith, word-clear _ _ _ _ word_bits c.loop-w.invariant.2 c.in_default.ensures (omega arith))

pub returns : goal.returns
returns c = all-clear _ _ _ (omega arith) c.loop-w.invariant.2
