-- Each byte goes on from what is kept, and in the end no byte is to come.
use Rattle.std.proofs.Common.{arith}
use Rattle.lines.proofs.HeadedLaws.{headed-on, headed-end}
use Rattle.tokens.proofs.feed.Goals as goal

pub loop-byte-preserved : goal.loop-byte-preserved
loop-byte-preserved g c = (
  c.in_ok-at.ensures.listed_upper,
  c.in_ok-at.ensures.kept_upper,
  omega arith,
  omega arith,
  headed-on _ _ _ _ _ _ c.loop-byte.invariant.4 c.loop-byte-test.true c.in_ok-at.ensures.lines_after,
)

pub returns-clause-lines_after : goal.returns-clause-lines_after
returns-clause-lines_after g c = headed-end _ _ _ _ _ _ c.loop-byte.invariant.4 c.loop-byte-test.false
