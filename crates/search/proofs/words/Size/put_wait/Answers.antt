-- `search::words::Size::put_wait` meets its contract: the pair as one number fits a word, and the words of the pairs that wait are in the slice.
use Rattle.search.proofs.words.Size.put_wait.Goals as goal

pub returns : goal.returns
returns c = cc
