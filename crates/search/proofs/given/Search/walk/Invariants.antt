-- `search::given::Search::walk` meets its contract: each turn goes over one symbol from all positions at once, so that what is left of the production is
-- what was left; every place is behind the one before, and none is behind the grammar's last.
use Prim.Native.Nat.{◌-◌, ◌≤◌}
use Rattle.grammar.specs.inside.Tables.{grammar_in}
use Rattle.search.proofs.WalkSteps.{Walking}
use Rattle.search.proofs.given.Search.walk.Given as goal

abbrev pub invariant-loop-k : goal.invariant-loop-k
invariant-loop-k l =
    (l.meter.left ≤ l.initial.meter.left)
    × Walking l.self.tables.now l.self.note.now l.self.masks.now l.ws l.f l.initial.x.words l.initial.meter.high l.p l.x.words l.meter.high

abbrev pub decreases-loop-k : goal.decreases-loop-k
decreases-loop-k l = (grammar_in l.self.tables.now).size - l.p
