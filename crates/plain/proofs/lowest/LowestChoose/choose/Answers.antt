-- `plain::lowest::Lowest::choose` meets its contract: what is taken is the plain chooser's alternative, so it serves, and some serves where the machine next
-- waits.
use mathlib.Core.Path.{refl}
use Rattle.machine.proofs.LowestLaws.{numbered-map}
use Rattle.plain.proofs.RunLaws.{picked-lowest}
use Rattle.plain.proofs.lowest.LowestChoose.choose.Goals as goal

pub returns : goal.returns
returns c = (refl, numbered-map _ (λ r y. picked-lowest _ _ y) c.take.ensures)
