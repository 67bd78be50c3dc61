-- `search::given::Search::attempt` meets its contract: the alternatives before this one were tried, which `Trying` says; each way that one more may lead is
-- a law.
use Rattle.search.proofs.AttemptLaws.{Trying}
use Rattle.search.proofs.given.Search.attempt.Given as goal

abbrev pub invariant-loop-before : goal.invariant-loop-before
invariant-loop-before l =
    Trying l.self.tables.now l.self.note.now l.self.masks.now l.ws l.pair.nonterminal l.pair.position l.initial.meter l.before l.ends l.meter
