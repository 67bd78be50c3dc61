-- `positions::from_bit` meets its contract: the word shifted by k is empty, and then no bit from k on is set, or its trailing zeros lead to the lowest such
-- bit.
use native.Mathlib.Omega.{arith}
use Rattle.positions.proofs.NextLaws.{from-none, from_some}
use Rattle.positions.proofs.from_bit.Goals as goal

pub returns-then-y-eq0 : goal.returns-then-y-eq0
returns-then-y-eq0 c = from-none _ _ (omega arith)

pub returns : goal.returns
returns c = from_some _ _ (omega arith) (omega arith) c.number.ensures
