-- `reach::enter` meets its contract: after each production its first place is marked, so that after the last all of them are.
use mathlib.Core.Path.{◌≡◌}
use lib.ListN.{length}
use Rattle.reach.specs.inside.Sets.{Added}
use Rattle.reach.proofs.EnterLaws.{Opened}
use Rattle.reach.proofs.enter.Given as goal

abbrev pub invariant-loop-f : goal.invariant-loop-f
invariant-loop-f l = (length l.sets ≡ length l.initial.sets) × Added (Opened l.f-items l.f-index l.i) l.grown l.initial.sets l.sets
