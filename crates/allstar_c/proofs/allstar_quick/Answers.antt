-- `allstar_c::allstar_quick` meets its contract: the number, the place and the count stored are those of the reading that `quick` answers, and the cache is the
-- one that it leaves.
use Rattle.quick.proofs.ToldLaws.{told-reply, told-count}
use Rattle.allstar_c.proofs.allstar_quick.Goals as goal

pub returns : goal.returns
returns c = told-reply c.quick-reply.result _ _ c.number.ensures c.place.ensures (told-count c.quick-reply.result c.unwrap_or.ensures) c.quick-reply.ensures
