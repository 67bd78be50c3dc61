-- `learning::learn::advance` meets its contract: the configurations from number j on are left to pass.
use mathlib.Core.List.{[]}
use Rattle.grammar.specs.inside.Tables.{grammar_in}
use Rattle.lookahead.specs.Closing.{add_all}
use Rattle.lookahead.specs.Outcomes.{step_configs}
use Rattle.configurations.specs.Packing.{unpack_all}
use Rattle.configurations.proofs.GrowSteps.{Left}
use Rattle.learning.proofs.AdvanceLaws.{stepping}
use Rattle.learning.proofs.learn.advance.Given as goal

abbrev pub invariant-loop-j : goal.invariant-loop-j
invariant-loop-j l = Left l.members l.n (stepping l.tables l.t l.configs l.j) (add_all [] (step_configs (grammar_in l.tables) l.t (unpack_all l.configs)))
