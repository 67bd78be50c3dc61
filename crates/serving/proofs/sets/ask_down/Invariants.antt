-- `serving::sets::ask_down` meets its contract: each turn the next frame down gets the positions at which it is asked, and from those positions its return
-- place says at which the frame below is.
use mathlib.Core.Path.{◌≡◌}
use Prim.Native.Nat.{◌≤◌}
use lib.ListN.{length}
use Rattle.serving.proofs.AskLaws.{Asking}
use Rattle.serving.proofs.sets.ask_down.Given as goal

abbrev pub invariant-loop-k : goal.invariant-loop-k
invariant-loop-k l =
    (l.known ≤ l.k) × (l.k ≤ l.depth) × (length l.ws ≡ length l.initial.ws)
    × Asking l.space.places l.n l.space.base l.depth l.initial.s.words l.initial.ws l.k l.ws l.s.words

abbrev pub decreases-loop-k : goal.decreases-loop-k
decreases-loop-k l = l.k
