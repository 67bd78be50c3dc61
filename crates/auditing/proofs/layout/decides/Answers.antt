-- `auditing::layout::decides` meets its contract: a number above the nonterminals has no production, and of the others the tables say how many.
use native.Mathlib.Omega.{arith}
use Rattle.auditing.proofs.LayoutSteps.{decides-nobody, decides-by}
use Rattle.auditing.proofs.layout.decides.Goals as goal

pub returns-then-nonterminals-a : goal.returns-then-nonterminals-a
returns-then-nonterminals-a c = decides-nobody _ _ c.nonterminals.ensures (omega arith)

pub returns : goal.returns
returns c = decides-by _ _ c.alternatives.ensures
