-- `allstar_c::allstar_plain` meets its contract: the number, the place and the count stored are those of the reading that `plain` answers.
use Rattle.quick.proofs.ToldLaws.{told, told-count}
use Rattle.allstar_c.proofs.allstar_plain.Goals as goal

pub returns : goal.returns
returns c = told c.plain-reading.result _ c.number.ensures c.place.ensures (told-count c.plain-reading.result c.unwrap_or.ensures) c.plain-reading.ensures
