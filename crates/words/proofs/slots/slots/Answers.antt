-- `words::slots::slots` meets its contract: the words behind the fixed ones are divided among slots, up to the most that are used.
use native.Mathlib.Omega.{arith}
use Rattle.words.specs.Layout.{slots}
use Rattle.words.proofs.slots.slots.Goals as goal

pub returns : goal.returns
unfolding slots
returns c = omega arith
