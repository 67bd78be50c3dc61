-- `grammar::place_of` meets its contract: the code computes the two fields of `place_of`.
use Rattle.grammar.specs.inside.Tables.{place_of}
use Rattle.grammar.proofs.place_of.Goals as goal

pub returns : goal.returns
unfolding place_of
returns c = cc
