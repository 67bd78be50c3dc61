-- `grammar::put_corners` meets its contract: both words of the row lie in the tables, and the two halves of 32 bits fit them.
use native.Mathlib.Omega.{arith}
use lib.ListN.{length-set}
use Rattle.grammar.proofs.CornerLaws.{row_put}
use Rattle.grammar.proofs.put_corners.Goals as goal

pub bounds-tables-at-2 : goal.bounds-tables-at-2
bounds-tables-at-2 c = simp length-set (omega arith)

pub returns : goal.returns
returns c =
    row_put _ _ _ _ _ (omega (arith, c.narrow.ensures, c.number-corners.ensures)) (omega (arith, c.narrow-2.ensures, c.number-corners.ensures))
