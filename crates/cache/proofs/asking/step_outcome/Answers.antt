-- `cache::asking::step_outcome` meets its contract: the words that a slot keeps are those of its state.
use Rattle.cache.proofs.AskSteps.{step-kept}
use Rattle.cache.proofs.asking.step_outcome.Goals as goal

pub step-requires : goal.step-requires
step-requires c = (c.requires.0.ready, c.requires.1)

pub returns : goal.returns
returns c = step-kept _ _ _ _ _ _ c.kept.ensures c.step.ensures
