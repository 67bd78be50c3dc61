-- `grammar::place_at` meets its contract: behind the end place the word 0 says `nowhere`, and every other place has its word in the tables.
use Rattle.grammar.proofs.WordLaws.{place-past, place_in}
use native.Mathlib.Omega.{arith}
use Rattle.grammar.proofs.place_at.Goals as goal

pub returns-then-p-gt-END_PLACE : goal.returns-then-p-gt-END_PLACE
returns-then-p-gt-END_PLACE c = place-past _ _ (omega arith) c.place_of.ensures

pub returns : goal.returns
returns c = place_in _ _ (omega arith) c.place_of-2.ensures
