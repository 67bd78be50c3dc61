-- `configurations::words::head` meets its contract: a configuration's head is the first of its words.
use mathlib.Core.Path.{refl}
use Rattle.configurations.specs.inside.Packed.{packed_at}
use Rattle.configurations.proofs.words.head.Goals as goal

pub returns : goal.returns
unfolding packed_at
returns c = refl
