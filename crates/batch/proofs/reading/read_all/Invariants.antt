-- `batch::reading::read_all` meets its contract: each turn reads the next note into the next part of the row and tells its answers, so that what stands
-- there and what is left make up the whole.
use mathlib.Core.Path.{◌≡◌}
use lib.ListN.{length}
use Rattle.batch.specs.inside.Turns.{Turning}
use Rattle.batch.proofs.reading.read_all.Given as goal

abbrev pub invariant-loop-k : goal.invariant-loop-k
invariant-loop-k l =
    Turning l.tables l.tokens l.lengths l.standing l.initial.answers l.initial.row l.initial.cache (length l.initial.ws) l.part l.k l.from l.at l.answers
    l.row l.cache × (length l.ws ≡ length l.initial.ws)
