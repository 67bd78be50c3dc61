-- A byte of a line is kept by `keep`; one that ends it leaves nothing of it kept.
use Rattle.lines.proofs.OpenLaws.{kept-end, kept_byte}
use Rattle.notes.proofs.step.Goals as goal

pub returns-then-byte-ne10-clause-line_after : goal.returns-then-byte-ne10-clause-line_after
returns-then-byte-ne10-clause-line_after g c =
    kept_byte _ _ _ c.if-byte-ne10.true (rw c.requires.line_length at c.keep.ensures.line_after)

pub returns-clause-line_after : goal.returns-clause-line_after
returns-clause-line_after g c = kept-end _ _ _ c.if-byte-ne10.false
