-- `reach::put_place` meets its contract: only the word of p is set anew, as in `with_of`.
use Rattle.positions.specs.inside.Positions.{with_of}
use Rattle.reach.proofs.put_place.Goals as goal

pub returns : goal.returns
unfolding with_of
returns c = cc
