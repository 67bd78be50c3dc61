-- `order::sweep` meets its contract: whoever takes a place is ripe then, so the places stay lined up; if nobody took one, nobody was ripe, and that
-- cannot be as long as somebody has no place.
use mathlib.Core.Path.{◌≡◌}
use Prim.Native.Nat.{◌≤◌}
use lib.ListN.{length}
use Rattle.order.specs.inside.Placing.{Placing}
use Rattle.order.proofs.SweepLaws.{NoneRipe}
use Rattle.order.proofs.sweep.Given as goal

abbrev pub invariant-loop-k : goal.invariant-loop-k
invariant-loop-k l =
    (length l.order ≡ length l.initial.order)
    × (l.initial.placed.count ≤ l.placed.count)
    × Placing l.tables l.order l.placed.set l.placed.count
    × (l.placed.count ≡ l.initial.placed.count → NoneRipe l.tables l.up l.n l.k l.placed.set)
