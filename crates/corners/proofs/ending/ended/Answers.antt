-- `corners::ending::ended` meets its contract: each of the two ways out is one case of `cond`.
use mathlib.Core.Path.{sym, ap, ◌∙◌}
use Rattle.base.specs.Bits.{is_subset}
use Rattle.corners.proofs.ending.ended.Goals as goal

pub returns-then-subset : goal.returns-then-subset
returns-then-subset c = rw (ap (is_subset _) (sym c.with.ensures) ∙ sym c.subset.ensures ∙ c.if-subset.true) c.with-then-subset.ensures

pub returns-else-subset : goal.returns-else-subset
returns-else-subset c = rw (ap (is_subset _) (sym c.with.ensures) ∙ sym c.subset.ensures ∙ c.if-subset.false)
