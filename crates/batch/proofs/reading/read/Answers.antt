-- `batch::reading::read` meets its contract: the note's gate is the definition's, and what passes is read over the cache as it stands.
use Rattle.std.proofs.lemmas.Result.{err_from_is_err_and}
use Rattle.batch.proofs.ReadingLaws.{note-shut, note-passed}
use Rattle.batch.proofs.reading.read.Goals as goal

pub over-requires : goal.over-requires
over-requires c = (c.note_gate.ensures.admits c.in_ok-note_gate.was, c.requires.1)

pub returns-in_err-note_gate : goal.returns-in_err-note_gate
returns-in_err-note_gate c =
    let p = err_from_is_err_and c.from_residual.result c.from_residual.ensures.1 in
    rw (p.1, p.2) (note-shut _ _ _ c.note_gate.ensures c.in_err-note_gate.was)

pub returns : goal.returns
returns c = note-passed _ _ _ c.note_gate.ensures c.in_ok-note_gate.was c.over.ensures
