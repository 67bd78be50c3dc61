-- `words::slots::start_of` meets its contract: the word at its address is what is recorded.
use Rattle.words.specs.Words.{start_of}
use borrow.Author.Rules.{rules}
use Rattle.words.proofs.slots.start_of.Goals as goal

pub returns : goal.returns
unfolding start_of
returns c = search rules
