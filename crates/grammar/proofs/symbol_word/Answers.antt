-- `grammar::symbol_word` meets its contract: the code of the symbol written as v is suc v, which stays below the owner's part, and both fit 16 bits.
use Rattle.grammar.proofs.WordLaws.{word-written}
use native.Mathlib.Omega.{arith}
use Rattle.grammar.proofs.symbol_word.Goals as goal

pub returns : goal.returns
returns c = word-written _ _ (omega arith)
