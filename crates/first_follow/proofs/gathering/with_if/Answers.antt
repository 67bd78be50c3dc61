-- `first_follow::gathering::with_if` meets its contract: each way out is one case of `cond`.
use Rattle.first_follow.proofs.gathering.with_if.Goals as goal

pub returns-then-yes : goal.returns-then-yes
returns-then-yes c = let e = c.if-yes.true in rw e c.with.ensures

pub returns-else-yes : goal.returns-else-yes
returns-else-yes c = let e = c.if-yes.false in rw e
