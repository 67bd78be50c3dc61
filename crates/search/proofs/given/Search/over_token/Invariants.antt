-- `search::given::Search::over_token` meets its contract: the members are gone through in rising order, and each leads to the position behind it if the
-- token there may stand; how far they come is raised to that position.
use Prim.Native.Nat.{◌≤◌}
use Rattle.positions.proofs.MemberLaws.{Loop}
use Rattle.search.proofs.OverLaws.{Tokens}
use Rattle.search.proofs.given.Search.over_token.Given as goal

abbrev pub invariant-loop-m : goal.invariant-loop-m
invariant-loop-m l =
    (goal.iterator-loop-m).can_next l.m-iterator
    × (goal.iterator-loop-m).is_finite l.m-iterator
    × (l.meter.left ≤ l.initial.meter.left)
    × Loop l.fn.from l.n l.m-iterator
    (λ m. Tokens l.self.tables.now l.self.note.now l.self.masks.now l.ws l.p l.fn.from.words l.initial.meter.high m l.to.words l.meter.high)
