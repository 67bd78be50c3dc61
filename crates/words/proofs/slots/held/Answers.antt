-- `words::slots::held` meets its contract: the word at its address is how many states are held.
use Rattle.words.specs.Words.{held}
use borrow.Author.Rules.{rules}
use Rattle.words.proofs.slots.held.Goals as goal

pub returns : goal.returns
unfolding held
returns c = search rules
