-- `words::bytes::word_at` meets its contract: four bytes from here on, those past the end being 0.
use Rattle.words.specs.inside.Bytes.{word_at}
use borrow.Author.Rules.{rules}
use Rattle.words.proofs.bytes.word_at.Goals as goal

pub returns-then-i-bytes : goal.returns-then-i-bytes
unfolding word_at
returns-then-i-bytes c = search rules

pub returns : goal.returns
unfolding word_at
returns c = search rules
