-- `number::Cursor::limited` meets its contract: each way out, a number refused, too low, too high or good, is one case of `limited_at`.
use Rattle.number.proofs.NumberLaws.{limited-refused, limited-below, limited-above, limited-in}
use native.Mathlib.Omega.{arith}
use Rattle.number.proofs.Cursor.limited.Goals as goal

pub returns-in_default : goal.returns-in_default
returns-in_default c = limited-refused _ _ _ _ c.number-n.ensures c.in_default.is

pub returns-then-v-low : goal.returns-then-v-low
returns-then-v-low c = limited-below _ _ _ _ c.number-n.ensures c.in-Value.is (omega arith)

pub returns-then-high-v : goal.returns-then-high-v
returns-then-high-v c = limited-above _ _ _ _ c.number-n.ensures c.in-Value.is (omega arith)

pub returns : goal.returns
returns c = limited-in _ _ _ _ c.number-n.ensures c.in-Value.is (omega arith) (omega arith)
