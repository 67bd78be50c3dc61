-- `reach::has_place` meets its contract: place p is bit p % word_bits of word p / word_bits, and that word is one of the set's.
use Rattle.positions.specs.inside.Positions.{member}
use Rattle.reach.proofs.has_place.Goals as goal

pub returns : goal.returns
unfolding member
returns c = c.has.ensures
