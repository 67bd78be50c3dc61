-- `positions::Positions::has` meets its contract: position j is bit j % word_bits of word j / word_bits, and that word is one of the five.
use Rattle.positions.specs.inside.Positions.{member}
use Rattle.positions.proofs.Positions.has.Goals as goal

pub returns : goal.returns
unfolding member
returns c = c.has.ensures
