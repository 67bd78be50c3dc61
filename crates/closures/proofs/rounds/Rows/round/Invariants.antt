-- `closures::rounds::Rows::round` meets its contract: the productions that came are judged, as in `round_of`.
use mathlib.Core.Path.{◌≡◌}
use lib.ListN.{length, drop, take}
use Rattle.std.specs.Iterator.Adapters.{zip_first, zip_second}
use Rattle.std.specs.Slice.Iter.{iter_rest}
use Rattle.closures.specs.inside.Steps.{round_of}
use Rattle.closures.proofs.rounds.Rows.round.Given as goal

abbrev pub invariant-loop-need : goal.invariant-loop-need
invariant-loop-need l =
    (iter_rest (zip_first l.need-iterator) ≡ drop (length l.yielded) (take l.self.count l.self.needs))
    × (iter_rest (zip_second l.need-iterator) ≡ drop (length l.yielded) (take l.self.count l.self.owners))
    × (l.next ≡ round_of l.self.needs l.self.owners l.set (length l.yielded))
