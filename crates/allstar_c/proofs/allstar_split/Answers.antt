-- `allstar_c::allstar_split` meets its contract: the number, the place and the count stored are those of the splitting that `split` answers.
use Rattle.allstar_c.proofs.Answers.{told-split}
use Rattle.allstar_c.proofs.allstar_split.Goals as goal

pub returns : goal.returns
returns c = told-split c.split-splitting.result _ c.number.ensures c.place.ensures c.count.ensures c.split-splitting.ensures
