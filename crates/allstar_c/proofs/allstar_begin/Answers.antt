-- `allstar_c::allstar_begin` meets its contract: the number, the place and the words stored are those of what `begin` answers and leaves.
use Rattle.allstar_c.proofs.Answers.{told-begun}
use Rattle.allstar_c.proofs.allstar_begin.Goals as goal

pub returns : goal.returns
returns c = told-begun c.begin-beginning.result _ c.number.ensures c.place.ensures c.begin-beginning.ensures
