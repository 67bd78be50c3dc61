-- `search::given::Search::add_all` meets its contract: the members are gone through in rising order, and those below the next one were added.
use Rattle.positions.proofs.MemberLaws.{Loop}
use Rattle.search.proofs.AddLaws.{Adding}
use Rattle.search.proofs.given.Search.add_all.Given as goal

abbrev pub invariant-loop-m : goal.invariant-loop-m
invariant-loop-m l =
    (goal.iterator-loop-m).can_next l.m-iterator
    × (goal.iterator-loop-m).is_finite l.m-iterator
    × Loop l.fn.from l.n l.m-iterator (λ m. Adding l.self.masks.now l.self.note.now l.a l.k l.fn.from.words l.initial.r m l.r)
