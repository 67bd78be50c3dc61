-- `search::words::Size::wait_of` meets its contract: the words of the pairs that wait are in the slice.
use Rattle.search.proofs.words.Size.wait_of.Goals as goal

pub returns : goal.returns
returns c = cc
