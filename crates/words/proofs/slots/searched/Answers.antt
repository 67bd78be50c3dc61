-- `words::slots::searched` meets its contract: as many slots as hold states, and no more than there are.
use borrow.Author.Rules.{rules}
use Rattle.words.specs.Words.{searched}
use Rattle.words.proofs.slots.searched.Goals as goal

pub returns : goal.returns
unfolding searched
returns c = search rules
