-- `corners::ending::all_end` meets its contract: rounds begin with nonterminals from which moves are known to end, and collect only such, so it is from all
-- once all are collected. The other ways out promise nothing.
use Rattle.corners.specs.inside.Ending.{Ending}
use Rattle.corners.proofs.ending.all_end.Given as goal

abbrev pub invariant-loop : goal.invariant-loop
invariant-loop l = Ending l.rows l.set
