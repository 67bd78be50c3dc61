-- `choosing::deciding::Predicting::choose` meets its contract: what is decided is the alternative of the quick reading's chooser over the cache's words.
use mathlib.Core.Path.{refl}
use Rattle.machine.proofs.LowestLaws.{numbered-map}
use Rattle.choosing.proofs.DecideLaws.{picked-chosen}
use Rattle.choosing.proofs.deciding.PredictingChoose.choose.Goals as goal

pub returns : goal.returns
returns c = (refl, numbered-map _ (λ r y. picked-chosen _ _ c.requires.1.1 c.requires.1.0 y) c.decide.ensures)
