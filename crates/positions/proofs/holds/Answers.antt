-- `positions::holds` meets its contract: the word of j stands j / word_bits behind the start of the set, which lies in the slice with all its words.
use Rattle.positions.specs.inside.Words.{member_at}
use Rattle.positions.proofs.holds.Goals as goal

pub returns : goal.returns
unfolding member_at
returns c = c.has.ensures
