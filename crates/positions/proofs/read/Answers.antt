-- `positions::read` meets its contract: the five words are read as in `set_at`, and each lies in the slice.
use mathlib.Core.Path.{refl}
use Rattle.positions.specs.inside.Words.{set_at}
use Rattle.positions.proofs.read.Goals as goal

pub returns : goal.returns
unfolding set_at
returns c = refl
