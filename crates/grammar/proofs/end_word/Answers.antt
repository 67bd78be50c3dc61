-- `grammar::end_word` meets its contract: an end's code is 0, so the word is its owner's part alone, and it fits 16 bits.
use Rattle.grammar.specs.inside.Tables.{word_of}
use native.Mathlib.Omega.{arith}
use Rattle.grammar.proofs.end_word.Goals as goal

pub returns : goal.returns
unfolding word_of
returns c = omega arith
