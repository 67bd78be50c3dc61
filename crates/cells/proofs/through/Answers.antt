-- `cells::through` meets its contract: without members there is nothing, one member leads where its cell says, and a first
-- one that leads everywhere up to the end leaves nothing for the others, because cells lead ahead.
use native.Mathlib.Omega.{arith}
use Rattle.positions.proofs.MemberLaws.{loop-begins, turn-holds, turn-within, loop_on, loop-ends}
use Rattle.cells.proofs.ThroughLaws.{no_member, one-member, everywhere, more-members}
use Rattle.cells.proofs.through.Goals as goal

pub returns-in_default : goal.returns-in_default
returns-in_default c =
    let begun = loop-begins c.members-members.ensures (λ m h. h) in
    let short = c.requires.lent.short in
    let (m, l, x) = loop-ends begun c.in_default.ensures.steps (omega (arith, short)) in
    no_member _ _ _ _ _ (omega (arith, short)) _ _ x l c.empty.ensures

pub returns-in_default-next : goal.returns-in_default-next
returns-in_default-next c =
    let begun = loop-begins c.members-members.ensures (λ m h. h) in
    let step = c.in-Some.ensures.steps in
    let short = c.requires.lent.short in
    let (m, l, x) = loop-ends (loop_on begun step (λ m h. h)) c.in_default-next.ensures.steps (omega (arith, short)) in
    one-member _ _ _ _ _ (omega (arith, short)) _ _ _ (turn-holds begun step) (turn-within begun step) c.cell-r.ensures x l

pub returns-then-full : goal.returns-then-full
returns-then-full c =
    let begun = loop-begins c.members-members.ensures (λ m h. h) in
    let step = c.in-Some.ensures.steps in
    let next = loop_on begun step (λ m h. h) in
    let short = c.requires.lent.short in
    everywhere _ _ _ _ _ (omega (arith, short)) _ _ _ (turn-holds begun step) (turn-within begun step) c.cell-r.ensures
    (turn-holds next c.in-Some-next.ensures.steps) c.requires.ahead c.full.ensures c.if-full.true

pub returns : goal.returns
returns c =
    let begun = loop-begins c.members-members.ensures (λ m h. h) in
    let step = c.in-Some.ensures.steps in
    let next = loop_on begun step (λ m h. h) in
    let short = c.requires.lent.short in
    more-members _ _ _ _ _ (omega (arith, short)) _ _ _ (turn-holds begun step) (turn-within begun step) c.cell-r.ensures
    (turn-holds next c.in-Some-next.ensures.steps) _ c.onward.ensures
