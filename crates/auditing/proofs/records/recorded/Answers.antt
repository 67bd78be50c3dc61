-- `auditing::records::recorded` meets its contract: the starts, and then the steps.
use mathlib.Core.Bool.{not}
use mathlib.Core.Path.{ap}
use Rattle.auditing.proofs.RecordSteps.{starts-wrong, steps-decide}
use Rattle.auditing.proofs.records.recorded.Goals as goal

pub returns-then-not-starts : goal.returns-then-not-starts
returns-then-not-starts c = starts-wrong _ _ c.starts.ensures (ap not c.if-not-starts.true)

pub returns : goal.returns
returns c = steps-decide _ _ c.starts.ensures (ap not c.if-not-starts.false) c.all_steps.ensures
