-- `number::Cursor::fetch` meets its contract: there is a byte to look at, and a count that is the cursor's place does not wrap.
use Rattle.number.proofs.FetchLaws.{fetch-is}
use native.Mathlib.Omega.{arith}
use Rattle.number.proofs.Cursor.fetch.Goals as goal

pub returns : goal.returns
returns c = fetch-is _ _ (omega arith) (omega arith) (omega arith)
