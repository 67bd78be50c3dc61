-- `base::subset` meets its contract: the code computes the same Boolean as `is_subset`.
use mathlib.Core.Path.{refl}
use Rattle.base.specs.Bits.{is_subset}
use Rattle.base.proofs.subset.Goals as goal

pub returns : goal.returns
unfolding is_subset
returns c = refl
