-- `reach::anywhere` meets its contract: the union of the sets is made place by place.
use Prim.Native.Nat.{◌≤◌}
use Rattle.reach.specs.inside.Sets.{Occupied}
use Rattle.reach.proofs.anywhere.Given as goal

abbrev pub invariant-loop-p : goal.invariant-loop-p
invariant-loop-p l = (l.p ≤ l.places) × Occupied l.sets l.p l.all.words
