-- `corners::ending::round` meets its contract: the first a nonterminals are judged, as in `ended_below`.
use mathlib.Core.Path.{◌≡◌}
use Rattle.corners.specs.inside.Ending.{ended_below}
use Rattle.corners.proofs.ending.round.Given as goal

abbrev pub invariant-loop-a : goal.invariant-loop-a
invariant-loop-a l = l.next ≡ ended_below l.rows l.set l.a
