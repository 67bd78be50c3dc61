-- `number::Cursor::number` meets its contract: each way out, after no, one, two or three fetches, is one case of `number_at`; a fetch starts where the last one
-- ended, and the answer's cursor is the last one's.
use Rattle.number.proofs.FetchLaws.{no_bytes, one_byte, tallied₁, one_left, two-long, two_bytes, tallied₂, two-left, three-long, three-high, three-bytes}
use native.Mathlib.Omega.{arith}
use Rattle.number.proofs.Cursor.number.Goals as goal

pub returns-then-bytes-at : goal.returns-then-bytes-at
returns-then-bytes-at c = no_bytes _ _ c.requires c.if-bytes-at.true

pub returns-then-first-lt128 : goal.returns-then-first-lt128
returns-then-first-lt128 c = one_byte _ _ c.requires (omega arith) c.fetch-first.ensures (omega arith)

pub returns-then-bytes-behind1 : goal.returns-then-bytes-behind1
returns-then-bytes-behind1 c = one_left _ _ c.requires (omega arith) c.fetch-first.ensures (omega arith) (omega arith)

pub fetch-second-requires : goal.fetch-second-requires
fetch-second-requires c = (tallied₁ _ _ c.requires c.if-bytes-at.false c.fetch-first.ensures, c.if-bytes-behind1.false)

pub returns-then-second-eq0 : goal.returns-then-second-eq0
returns-then-second-eq0 c =
    two-long _ _ c.requires (omega arith) c.fetch-first.ensures (omega arith) (omega arith) c.fetch-second.ensures
    (omega arith)

pub returns-then-second-lt128 : goal.returns-then-second-lt128
returns-then-second-lt128 c =
    two_bytes _ _ c.requires (omega arith) c.fetch-first.ensures (omega arith) (omega arith) c.fetch-second.ensures
    (omega arith) (omega arith) c.join-v.ensures

pub returns-then-bytes-behind2 : goal.returns-then-bytes-behind2
returns-then-bytes-behind2 c =
    two-left _ _ c.requires (omega arith) c.fetch-first.ensures (omega arith) (omega arith) c.fetch-second.ensures
    (omega arith) (omega arith)

pub fetch-third-requires : goal.fetch-third-requires
fetch-third-requires c = (
  tallied₂ _ _ c.requires c.if-bytes-at.false c.fetch-first.ensures c.if-first-lt128.false
      c.if-bytes-behind1.false c.fetch-second.ensures,
  c.if-bytes-behind2.false,
)

pub returns-then-third-eq0 : goal.returns-then-third-eq0
returns-then-third-eq0 c =
    three-long _ _ c.requires (omega arith) c.fetch-first.ensures (omega arith) (omega arith) c.fetch-second.ensures
    (omega arith) (omega arith) c.fetch-third.ensures (omega arith)

pub returns-then-third-gt3 : goal.returns-then-third-gt3
returns-then-third-gt3 c =
    three-high _ _ c.requires (omega arith) c.fetch-first.ensures (omega arith) (omega arith) c.fetch-second.ensures
    (omega arith) (omega arith) c.fetch-third.ensures (omega arith)

pub returns : goal.returns
returns c =
    three-bytes _ _ c.requires (omega arith) c.fetch-first.ensures (omega arith) (omega arith) c.fetch-second.ensures
    (omega arith) (omega arith) c.fetch-third.ensures (omega arith) (omega arith) (cc)
