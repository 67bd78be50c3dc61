-- A byte of the list's line, or of another line, is kept by `keep`; one that ends a typed line leaves nothing of it kept.
use Rattle.lines.proofs.OpenLaws.{kept-end, kept_byte}
use Rattle.lines.proofs.HeadedLaws.{head-ends, head_byte, tail-on}
use Rattle.tokens.proofs.step.Goals as goal

pub returns-then-byte-eq10-clause-lines_after : goal.returns-then-byte-eq10-clause-lines_after
returns-then-byte-eq10-clause-lines_after g c = head-ends _ _ _ _ _ c.if-at.true c.if-byte-eq10.true

pub returns-then-at-clause-lines_after : goal.returns-then-at-clause-lines_after
returns-then-at-clause-lines_after g c =
    head_byte _ _ _ _ _ c.if-at.true c.if-byte-eq10.false (rw c.requires.list_length at c.keep-more.ensures.line_after)

pub returns-then-byte-ne10-clause-lines_after : goal.returns-then-byte-ne10-clause-lines_after
returns-then-byte-ne10-clause-lines_after g c =
    tail-on _ _ _ _ _ c.if-at.false
    (kept_byte _ _ _ c.if-byte-ne10.true (rw c.requires.line_length at c.keep-more-then-byte-ne10.ensures.line_after))

pub returns-clause-lines_after : goal.returns-clause-lines_after
returns-clause-lines_after g c = tail-on _ _ _ _ _ c.if-at.false (kept-end _ _ _ c.if-byte-ne10.false)
