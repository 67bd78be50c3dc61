-- `order::ripe` meets its contract: what has a place is not ripe, and anything else is if its row lies in the set.
use Rattle.order.proofs.SweepLaws.{ripe-not, ripe-if}
use Rattle.order.proofs.ripe.Goals as goal

pub returns-then-has : goal.returns-then-has
returns-then-has c = ripe-not _ _ _ c.has.ensures c.if-has.true

pub returns : goal.returns
returns c = ripe-if _ _ _ c.has.ensures c.if-has.false c.subset.ensures
