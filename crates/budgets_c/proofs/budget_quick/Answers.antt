-- `budgets_c::budget_quick` meets its contract: the number, the place and the count stored are those of the reading that `quick::within` answers, and the
-- cache is the one that it leaves.
use Rattle.quick.proofs.ToldLaws.{told-reply, told-count}
use Rattle.budgets_c.proofs.budget_quick.Goals as goal

pub returns : goal.returns
returns c = told-reply c.within-reply.result _ _ c.number.ensures c.place.ensures (told-count c.within-reply.result c.unwrap_or.ensures) c.within-reply.ensures
