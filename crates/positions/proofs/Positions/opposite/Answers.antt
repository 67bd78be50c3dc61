-- `Positions::opposite` meets its contract: the five words are made one by one as in `opposite_of`; each index is one of the array.
use Rattle.positions.specs.inside.Positions.{opposite_of}
use Rattle.positions.proofs.Positions.opposite.Goals as goal

pub returns : goal.returns
unfolding opposite_of
returns c = cc
