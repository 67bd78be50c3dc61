-- `learning::learn::begin` meets its contract: the productions behind those that have begun are left to begin.
use mathlib.Core.List.{[]}
use Rattle.grammar.specs.inside.Tables.{grammar_in}
use Rattle.lookahead.specs.Closing.{add_all}
use Rattle.lookahead.specs.Outcomes.{start_configs}
use Rattle.configurations.proofs.GrowSteps.{Left}
use Rattle.learning.proofs.StartLaws.{starting}
use Rattle.learning.proofs.learn.begin.Given as goal

abbrev pub invariant-loop-k : goal.invariant-loop-k
invariant-loop-k l = Left l.members l.n (starting l.f-items l.k) (add_all [] (start_configs (grammar_in l.tables) l.a))
