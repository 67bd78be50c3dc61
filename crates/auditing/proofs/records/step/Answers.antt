-- `auditing::records::step` meets its contract: no record, or one whose outcome is worked out and compared.
use Rattle.cache.proofs.AskSteps.{told-room}
use Rattle.auditing.proofs.RecordSteps.{no_step, step-judged}
use Rattle.auditing.proofs.records.step.Goals as goal

pub returns-then-w-eq0 : goal.returns-then-w-eq0
returns-then-w-eq0 c = no_step _ _ _ _ c.step_of-w.ensures c.if-w-eq0.true

pub says-requires : goal.says-requires
says-requires c = (c.requires.0.words, told-room _ _ _ c.step_outcome-outcome.ensures)

pub returns : goal.returns
returns c =
    step-judged _ _ _ _ c.step_of-w.ensures c.if-w-eq0.false _ _ c.step_outcome-outcome.ensures c.decision-a.ensures
    c.says.ensures
