-- The goals of `closures::rounds::Rows::note_rules` that are not found.
use mathlib.Core.Path.{refl}
use native.Mathlib.Omega.{arith}
use Rattle.closures.specs.inside.Steps.{row_words}
use Rattle.closures.proofs.NoteSteps.{noted-none}
use Rattle.closures.proofs.rounds.Rows.note_rules.Goals as goal

pub loop-a-init : goal.loop-a-init
loop-a-init c =
    (rw c.requires.1 (omega arith), c.requires.0.needs-long, rw c.requires.0.owners-none refl, rw c.requires.0.owners-none (noted-none _ _ _ _ _ row_words))
