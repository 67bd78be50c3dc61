-- `closures::rounds::added` meets its contract: each of the two ways out is one case of `cond`.
use mathlib.Core.Path.{sym, ◌∙◌}
use Rattle.closures.proofs.rounds.added.Goals as goal

pub returns-then-subset : goal.returns-then-subset
returns-then-subset c = rw (sym c.subset.ensures ∙ c.if-subset.true)

pub returns-else-subset : goal.returns-else-subset
returns-else-subset c = rw (sym c.subset.ensures ∙ c.if-subset.false)
