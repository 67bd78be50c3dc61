-- `grammar::kinds` meets its contract: the word of the kinds lies in the tables, and it is what `grammar_in` reads.
use Rattle.grammar.specs.inside.Tables.{grammar_in}
use Rattle.grammar.proofs.kinds.Goals as goal

pub returns : goal.returns
unfolding grammar_in
returns c = c.from.ensures
