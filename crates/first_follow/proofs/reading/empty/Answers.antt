-- `first_follow::reading::empty` meets its contract: a bit of both words is one of each.
use native.Mathlib.Omega.{arith}
use Rattle.first_follow.proofs.ExactLaws.{empty-read}
use Rattle.first_follow.proofs.reading.empty.Goals as goal

pub returns : goal.returns
returns c = empty-read _ _ _ (omega arith) c.has.ensures
