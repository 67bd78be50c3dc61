-- `search::given::Search::over_call` meets its contract: the members are gone through in rising order, and each leads to the ends of the pair that is
-- called there, or stops the loop where that pair is not worked out.
use mathlib.Core.Path.{◌≡◌}
use Prim.Native.Nat.{◌≤◌}
use Rattle.positions.proofs.MemberLaws.{Loop}
use Rattle.search.proofs.OverLaws.{Calls}
use Rattle.search.proofs.given.Search.over_call.Given as goal

abbrev pub invariant-loop-m : goal.invariant-loop-m
invariant-loop-m l =
    (goal.iterator-loop-m).can_next l.m-iterator
    × (goal.iterator-loop-m).is_finite l.m-iterator
    × (l.meter.left ≤ l.initial.meter.left) × (l.meter.high ≡ l.initial.meter.high)
    × Loop l.fn.from l.n l.m-iterator (λ m. Calls l.self.tables.now l.self.note.now l.self.masks.now l.ws l.p l.b l.fn.from.words m l.to.words)
