-- `first_follow::gathering::note_call` meets its contract: one store in each row.
use mathlib.Core.Path.{refl}
use Rattle.first_follow.proofs.gathering.note_call.Goals as goal

pub returns : goal.returns
returns c = (cc, refl)
