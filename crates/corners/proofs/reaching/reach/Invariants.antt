-- `corners::reaching::reach` meets its contract: the rows are closed through every nonterminal below b, as in `reach_of`; an empty row joins nothing.
use mathlib.Core.Path.{◌≡◌}
use lib.ListN.{length}
use Rattle.corners.specs.inside.Steps.{reach_of}
use Rattle.corners.proofs.reaching.reach.Given as goal

abbrev pub invariant-loop-b : goal.invariant-loop-b
invariant-loop-b l = (length l.rows ≡ length l.initial.rows) × (l.rows ≡ reach_of l.n l.b l.initial.rows)
