-- `serving::sets::serve_up` meets its contract: each turn the next set up keeps those of its positions from which its frame can end in the set below, which is
-- done.
use mathlib.Core.Path.{◌≡◌}
use Prim.Native.Nat.{◌≤◌, ◌-◌}
use lib.ListN.{length}
use Rattle.serving.specs.inside.Sets.{ServedUp}
use Rattle.serving.proofs.sets.serve_up.Given as goal

abbrev pub invariant-loop-k : goal.invariant-loop-k
invariant-loop-k l =
    (l.known ≤ l.k) × (l.k ≤ l.depth) × (length l.ws ≡ length l.initial.ws) × ServedUp l.space.places l.n l.space.base l.known l.k l.initial.ws l.ws

abbrev pub decreases-loop-k : goal.decreases-loop-k
decreases-loop-k l = l.depth - l.k
