-- `learning_c::learning_start` meets its contract: a grammar that is refused is answered by 0, and a sound one is ready for the question, as in `start_of`.
use Rattle.derivation.proofs.ReadyLaws.{sound-ready}
use Rattle.learning_c.proofs.QuestionLaws.{start-refused, start-asked}
use Rattle.learning_c.proofs.learning_start.Goals as goal

pub start-requires : goal.start-requires
start-requires c = let a = c.args in sound-ready a.grammar.now c.compile.ensures c.in-Ok.is

pub returns-in-Err : goal.returns-in-Err
returns-in-Err c = start-refused _ _ c.compile.ensures _ c.in-Err.is

pub returns-in-Ok : goal.returns-in-Ok
returns-in-Ok c = start-asked _ _ c.compile.ensures c.in-Ok.is c.number.ensures c.start.ensures
