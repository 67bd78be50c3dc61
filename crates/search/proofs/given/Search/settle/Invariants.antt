-- `search::given::Search::settle` meets its contract: between two trials `Settling` holds, and each way that a trial may end is a law. Every turn costs some of
-- the budget.
use Rattle.search.proofs.SettleSteps.{Settling}
use Rattle.search.proofs.given.Search.settle.Given as goal

abbrev pub invariant-loop-ends : goal.invariant-loop-ends
invariant-loop-ends l =
    Settling l.self.tables.now l.self.note.now l.self.masks.now l.initial.ws l.fn.pair.nonterminal l.fn.pair.position l.initial.meter l.ws l.next.nonterminal
    l.next.position l.waiting l.meter

abbrev pub decreases-loop-ends : goal.decreases-loop-ends
decreases-loop-ends l = l.meter.left
