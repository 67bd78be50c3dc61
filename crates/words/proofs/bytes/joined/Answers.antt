-- `words::bytes::joined` meets its contract: the four bytes do not overlap, so joining them adds them.
use native.Mathlib.Omega.{arith}
use Rattle.words.proofs.PackSteps.{four}
use Rattle.words.proofs.bytes.joined.Goals as goal

pub returns : goal.returns
returns c = four _ _ _ _ (omega arith) (omega arith) (omega arith) (omega arith)
