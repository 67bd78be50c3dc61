-- `corners::reaching::joined` meets its contract: each of the two ways out is one case of `cond`.
use mathlib.Core.Path.{sym, ◌∙◌}
use Rattle.corners.proofs.reaching.joined.Goals as goal

pub returns-then-has : goal.returns-then-has
returns-then-has c = rw (sym c.has.ensures ∙ c.if-has.true)

pub returns-else-has : goal.returns-else-has
returns-else-has c = rw (sym c.has.ensures ∙ c.if-has.false)
