-- `first_follow::reading::follows` meets its contract: the word of the kind is read.
use native.Mathlib.Omega.{arith}
use Rattle.first_follow.proofs.ExactLaws.{follows-read}
use Rattle.first_follow.proofs.reading.follows.Goals as goal

pub returns : goal.returns
returns c = follows-read _ _ _ (omega arith) c.has.ensures
