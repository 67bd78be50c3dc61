-- `serving::aids::allow` meets its contract: both words are written.
use mathlib.Core.Path.{refl}
use Rattle.serving.proofs.AidLaws.{tally-put}
use Rattle.serving.proofs.aids.allow.Goals as goal

pub returns : goal.returns
returns c = tally-put c.args.tally.now c.requires refl refl
