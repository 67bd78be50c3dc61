-- `opening::marks::Frames::meets` meets its contract: a mark that stands is compared, and one that does not is written.
use native.Mathlib.Omega.{arith}
use Rattle.opening.proofs.MarkLaws.{meets-known, meets-new}
use Rattle.opening.proofs.marks.Frames.meets.Goals as goal

pub returns-then-k-self : goal.returns-then-k-self
returns-then-k-self c = meets-known _ _ _ _ _ (omega arith) c.number.ensures

pub returns : goal.returns
returns c = meets-new _ _ _ _ _ (omega arith) c.word.ensures
