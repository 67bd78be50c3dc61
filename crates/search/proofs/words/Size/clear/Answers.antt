-- `search::words::Size::clear` meets its contract: the sets of nonterminals are filled with zeros, and no pair is in an empty set.
use Rattle.search.proofs.ClearLaws.{cleared}
use Rattle.search.proofs.words.Size.clear.Goals as goal

pub returns : goal.returns
returns c = cleared _ _ _ c.requires (c.fill.ensures.after (λ y e. e))
