-- `words::beginning::write_sizes` meets its contract: the three stores are those of the definition.
use lib.ListN.{length-set}
use native.Mathlib.Omega.{arith}
use Rattle.words.proofs.beginning.write_sizes.Goals as goal

pub bounds-cache-2 : goal.bounds-cache-2
bounds-cache-2 c = simp length-set (omega arith)

pub returns : goal.returns
returns c = cc
