-- `reach::wrong_place` meets its contract: position after position, all that can be reached from it is found; the last one at which anybody stands is the
-- place.
use mathlib.Core.Path.{◌≡◌}
use Prim.Native.Nat.{◌+◌, ◌≤◌}
use lib.ListN.{length}
use Rattle.reach.specs.inside.Sets.{sets_words}
use Rattle.reach.proofs.FoundLaws.{FoundTo}
use Rattle.reach.proofs.wrong_place.Given as goal

abbrev pub invariant-loop-i : goal.invariant-loop-i
invariant-loop-i l = (l.i ≤ l.n + 1) × (length l.sets ≡ sets_words) × FoundTo l.tables l.note l.i l.sets
