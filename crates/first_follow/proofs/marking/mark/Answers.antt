-- `first_follow::marking::mark` meets its contract: the sets of every kind are FIRST and FOLLOW, and behind them the set of those that derive the empty row
-- is stored.
use lib.ListN.{length-set}
use Rattle.first_follow.proofs.LinedLaws.{ready-lined}
use Rattle.first_follow.proofs.ExactLaws.{exact, stored}
use Rattle.first_follow.proofs.marking.mark.Goals as goal

pub returns : goal.returns
returns c = (
  exact (ready-lined _ c.requires.0) _ _ c.relate.ensures.0 c.nullable-nullable.ensures c.relate.ensures.1,
  simp length-set c.relate.ensures.0,
  stored (ready-lined _ c.requires.0) _ _ c.relate.ensures.0 c.nullable-nullable.ensures c.relate.ensures.1,
)
