-- The goals of `cells::onward` that are not found.
use Rattle.std.proofs.Common.{◌∙◌}
use native.Mathlib.Omega.{arith}
use Rattle.positions.proofs.MemberLaws.{loop-begins, turn-holds, turn-within, turn-member, loop_on, loop-ends}
use Rattle.cells.proofs.ThroughLaws.{going-begins, going_on, going-ends}
use Rattle.cells.proofs.onward.Goals as goal

pub loop-m-init : goal.loop-m-init
loop-m-init c =
    let short = c.requires.0.short in (
      tt,
      tt,
      loop-begins (c.into_iter-m-iterator.ensures.into_iter_gives ∙ c.members-m-items.ensures)
          (λ m h. going-begins _ _ _ _ _ (omega (arith, short)) _ _ _ h),
    )

pub loop-m-preserved : goal.loop-m-preserved
loop-m-preserved c =
    let short = c.requires.0.short in
    let going = c.loop-m.invariant.2 in
    let step = c.in-Some.ensures.steps in (
      tt,
      tt,
      loop_on going step
          (λ m h. going_on _ _ _ _ _ (omega (arith, short)) _ _ _ _ _ _ (turn-holds going step) (turn-within going step) (turn-member going step)
          c.cell-t.ensures c.union-r.ensures h),
    )

pub returns : goal.returns
returns c =
    let short = c.requires.0.short in
    let (m, l, x) = loop-ends c.loop-m.invariant.2 c.in-None.ensures.steps (omega (arith, short)) in
    going-ends _ _ _ _ _ _ _ _ _ x l
