-- `positions::Positions::union` meets its contract: the five words are made one by one as in `union_of`; each index is one of the array.
use mathlib.Core.Path.{refl}
use Rattle.positions.specs.inside.Positions.{union_of}
use Rattle.positions.proofs.Positions.union.Goals as goal

pub returns : goal.returns
unfolding union_of
returns c = refl
