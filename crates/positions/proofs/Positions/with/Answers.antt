-- `positions::Positions::with` meets its contract: only the word of j is set anew, as in `with_of`.
use Rattle.positions.specs.inside.Positions.{with_of}
use Rattle.positions.proofs.Positions.with.Goals as goal

pub returns : goal.returns
unfolding with_of
returns c = cc
