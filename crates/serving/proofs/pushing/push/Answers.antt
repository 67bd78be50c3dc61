-- `serving::pushing::push` meets its contract: one word is written, and no more sets stand than there are frames below it.
use native.Mathlib.Omega.{arith}
use Rattle.serving.proofs.pushing.push.Goals as goal

pub returns : goal.returns
returns c = (cc, omega arith)
