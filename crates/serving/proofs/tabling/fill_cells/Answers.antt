-- `serving::tabling::fill_cells` meets its contract: cells are right if a set was, and else they are filled.
use mathlib.Core.Path.{refl}
use native.Mathlib.Omega.{arith}
use Rattle.serving.proofs.tabling.fill_cells.Goals as goal

pub returns-else-known-eq0 : goal.returns-else-known-eq0
returns-else-known-eq0 c = record { charted = c.requires.charted (omega arith); kept = refl }
