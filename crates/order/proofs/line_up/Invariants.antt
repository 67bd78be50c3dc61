-- `order::line_up` meets its contract: each turn places somebody, so that after as many turns as there are nonterminals all have a place, each behind
-- its left corners.
use mathlib.Core.Path.{◌≡◌}
use Prim.Native.Nat.{◌-◌}
use lib.ListN.{length}
use Rattle.order.specs.inside.Placing.{Placing}
use Rattle.order.proofs.line_up.Given as goal

abbrev pub invariant-loop-placed : goal.invariant-loop-placed
invariant-loop-placed l = (length l.order ≡ length l.initial.order) × Placing l.tables l.order l.placed.set l.placed.count

abbrev pub decreases-loop-placed : goal.decreases-loop-placed
decreases-loop-placed l = l.n - l.placed.count
