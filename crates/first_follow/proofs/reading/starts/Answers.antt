-- `first_follow::reading::starts` meets its contract: the word of the kind is read.
use native.Mathlib.Omega.{arith}
use Rattle.first_follow.proofs.ExactLaws.{starts-read}
use Rattle.first_follow.proofs.reading.starts.Goals as goal

pub returns : goal.returns
returns c = starts-read _ _ _ (omega arith) c.has.ensures
