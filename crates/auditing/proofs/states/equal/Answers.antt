-- `auditing::states::equal` meets its contract: slot p holds what slot s keeps.
use Rattle.auditing.proofs.StateSteps.{equal_is}
use Rattle.auditing.proofs.states.equal.Goals as goal

pub returns : goal.returns
returns c = equal_is _ _ _ c.decision-a.ensures c.kept.ensures c.holds.ensures
