-- `cache::asking::ask_start` meets its contract: a word that is not 0 is what was recorded, and else the outcome is worked out.
use Rattle.cache.proofs.AskSteps.{start-recorded}
use Rattle.cache.proofs.asking.ask_start.Goals as goal

pub returns-then-w-ne0 : goal.returns-then-w-ne0
returns-then-w-ne0 c = start-recorded _ _ _ c.start_of-w.ensures c.if-w-ne0.true
