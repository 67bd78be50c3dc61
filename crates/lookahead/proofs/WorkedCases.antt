-- The table of worked cases holds, by computation.
use mathlib.Core.Path.{refl}
use Rattle.base.specs.Lists.{AllOf}
use Rattle.lookahead.specs.Worked.{WalkHolds, walks}

pub all_hold : AllOf WalkHolds walks
unfolding WalkHolds
all_hold = (refl, (refl, (refl, (refl, (refl, (refl, (refl, (refl, (refl, (refl, tt))))))))))
