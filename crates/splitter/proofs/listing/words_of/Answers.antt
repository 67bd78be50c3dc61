-- `splitter::listing::words_of` meets its contract: the words that are indexed are the list's, or the list is none.
use Rattle.splitter.proofs.ListLaws.{listed-yes, listed-no}
use Rattle.splitter.proofs.listing.words_of.Goals as goal

pub index-requires : goal.index-requires
index-requires c = (c.none-words.ensures.1, c.none-words.ensures.2, c.none-words.ensures.3, c.requires)

pub returns-then-index : goal.returns-then-index
returns-then-index c = listed-yes _ _ (rw c.none-words.ensures.0 at c.index.ensures) c.if-index.true

pub returns-else-index : goal.returns-else-index
returns-else-index c = listed-no _ _ (rw c.none-words.ensures.0 at c.index.ensures) c.if-index.false
