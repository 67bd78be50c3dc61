-- `learning_c::learning_step` meets its contract: a grammar that is refused is answered by 0, and a sound one is ready for the question, as in `step_of`.
use Rattle.derivation.proofs.ReadyLaws.{sound-ready}
use Rattle.learning_c.proofs.QuestionLaws.{step-refused, step-asked}
use Rattle.learning_c.proofs.learning_step.Goals as goal

pub step-requires : goal.step-requires
step-requires c = let a = c.args in sound-ready a.grammar.now c.compile.ensures c.in-Ok.is

pub returns-in-Err : goal.returns-in-Err
returns-in-Err c = step-refused _ _ c.compile.ensures _ _ c.in-Err.is

pub returns-in-Ok : goal.returns-in-Ok
returns-in-Ok c =
    step-asked _ _ c.compile.ensures c.in-Ok.is c.number.ensures c.number-in-Ok.ensures
    c.step.ensures
