-- Each byte goes on from what is kept, and in the end no byte is to come.
use Rattle.std.proofs.Common.{arith}
use Rattle.lines.proofs.OpenLaws.{feed-on, feed-end}
use Rattle.notes.proofs.feed.Goals as goal

pub loop-byte-preserved : goal.loop-byte-preserved
loop-byte-preserved g c = (
  c.in_ok-k.ensures.upper_bound,
  omega arith,
  feed-on _ _ _ _ _ c.loop-byte.invariant.2 c.loop-byte-test.true c.in_ok-k.ensures.line_after,
)

pub returns-clause-line_after : goal.returns-clause-line_after
returns-clause-line_after g c = feed-end _ _ _ _ _ c.loop-byte.invariant.2 c.loop-byte-test.false
