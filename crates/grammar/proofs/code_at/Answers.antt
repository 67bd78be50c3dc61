-- `grammar::code_at` meets its contract: behind the end place the code 0 says that an end is faced, and every other place has its code in its word.
use Rattle.grammar.proofs.WordLaws.{code-past, code_in}
use native.Mathlib.Omega.{arith}
use Rattle.grammar.proofs.code_at.Goals as goal

pub returns-then-p-gt-END_PLACE : goal.returns-then-p-gt-END_PLACE
returns-then-p-gt-END_PLACE c = code-past _ _ (omega arith)

pub returns : goal.returns
returns c = code_in _ _ (omega arith) c.from.ensures
