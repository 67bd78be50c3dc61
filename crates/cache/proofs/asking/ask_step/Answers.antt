-- `cache::asking::ask_step` meets its contract: a word that is not 0 is what was recorded, and else the outcome is worked out.
use Rattle.cache.proofs.AskSteps.{step-recorded}
use Rattle.cache.proofs.asking.ask_step.Goals as goal

pub returns-then-w-ne0 : goal.returns-then-w-ne0
returns-then-w-ne0 c = step-recorded _ _ _ _ _ c.step_of-w.ensures c.if-w-ne0.true
