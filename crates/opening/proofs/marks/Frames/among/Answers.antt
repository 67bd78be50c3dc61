-- `opening::marks::Frames::among` meets its contract: a mark is looked up only of a frame that has one, and only if it is a position.
use native.Mathlib.Omega.{arith}
use Rattle.opening.proofs.MarkLaws.{among_none, among-far, among-has}
use Rattle.opening.proofs.marks.Frames.among.Goals as goal

pub returns-then-self-k : goal.returns-then-self-k
returns-then-self-k c = among_none _ _ _ _ _ (omega arith)

pub returns-then-m-ge-COUNT : goal.returns-then-m-ge-COUNT
returns-then-m-ge-COUNT c = among-far _ _ _ _ _ (omega arith) c.number-m.ensures (omega arith)

pub returns : goal.returns
returns c = among-has _ _ _ _ _ (omega arith) c.number-m.ensures (omega arith) c.has.ensures
