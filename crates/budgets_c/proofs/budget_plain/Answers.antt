-- `budgets_c::budget_plain` meets its contract: the number, the place and the count stored are those of the reading that `plain::within` answers.
use Rattle.quick.proofs.ToldLaws.{told, told-count}
use Rattle.budgets_c.proofs.budget_plain.Goals as goal

pub returns : goal.returns
returns c = told c.within-reading.result _ c.number.ensures c.place.ensures (told-count c.within-reading.result c.unwrap_or.ensures) c.within-reading.ensures
