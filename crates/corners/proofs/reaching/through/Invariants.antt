-- `corners::reaching::through` meets its contract: the rows below a are joined, as in `pivot_below`.
use mathlib.Core.Path.{◌≡◌}
use lib.ListN.{length}
use Rattle.corners.specs.inside.Steps.{pivot_below}
use Rattle.corners.proofs.reaching.through.Given as goal

abbrev pub invariant-loop-a : goal.invariant-loop-a
invariant-loop-a l = (length l.rows ≡ length l.initial.rows) × (l.rows ≡ pivot_below l.row l.b l.a l.initial.rows)
