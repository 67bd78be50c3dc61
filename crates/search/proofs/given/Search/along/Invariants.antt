-- `search::given::Search::along` meets its contract: each turn goes over a token that may stand there or over a pair with one end, so that what is left of the
-- production is what was left; every place is behind the one before, and none is behind the grammar's last.
use Prim.Native.Nat.{◌-◌}
use Rattle.grammar.specs.inside.Tables.{grammar_in}
use Rattle.search.proofs.WayLaws.{Along}
use Rattle.search.proofs.given.Search.along.Given as goal

abbrev pub invariant-loop-k : goal.invariant-loop-k
invariant-loop-k l = Along l.self.tables.now l.self.note.now l.self.masks.now l.ws l.f l.i l.p l.j

abbrev pub decreases-loop-k : goal.decreases-loop-k
decreases-loop-k l = (grammar_in l.self.tables.now).size - l.p
