-- `words::beginning::is_begun` meets its contract: it has begun where lengths and bytes both are the same.
use mathlib.Core.Bool.{not}
use mathlib.Core.Path.{ap}
use Rattle.words.proofs.BeginSteps.{other-sizes, same-sizes}
use Rattle.words.proofs.beginning.is_begun.Goals as goal

pub returns-then-not-has_sizes : goal.returns-then-not-has_sizes
returns-then-not-has_sizes c = other-sizes _ _ c.has_sizes.ensures (ap not c.if-not-has_sizes.true)

pub returns : goal.returns
returns c = same-sizes _ _ c.has_sizes.ensures (ap not c.if-not-has_sizes.false) c.has_bytes.ensures
