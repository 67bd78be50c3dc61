-- `reader::finish` meets its contract: the four stores are those of `finished`, and each lies in the tables.
use Rattle.grammar.specs.inside.Tables.{word_of}
use Rattle.reader.specs.inside.Pass.{finished}
use Rattle.reader.proofs.finish.Goals as goal

pub returns : goal.returns
unfolding finished word_of
returns c = cc
