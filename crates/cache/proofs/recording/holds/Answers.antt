-- `cache::recording::holds` meets its contract: a slot holds a state where its decision and its words are the same, and nowhere else.
use mathlib.Core.Path.{◌∙◌}
use native.Mathlib.Omega.{arith}
use borrow.Author.Tests.{ne_eqb}
use Rattle.std.proofs.lemmas.Grind.{common_steps}
use Rattle.cache.proofs.StateSteps.{other-decision, same-decision}
use Rattle.cache.proofs.recording.holds.Goals as goal

pub returns-then-decision-a : goal.returns-then-decision-a
returns-then-decision-a c = same-decision _ _ _ _ c.decision.ensures c.if-decision-a.true c.kept.ensures (grind (arith, common_steps, c.eq.ensures))

pub returns-else-decision-a : goal.returns-else-decision-a
returns-else-decision-a c = ne_eqb _ _ c.if-decision-a.false ∙ other-decision _ _ _ _ c.decision.ensures c.if-decision-a.false
