-- The goals of `machine::choice::serving` that are not found.
use native.Mathlib.Omega.{arith}
use Rattle.std.proofs.Common.{◌∙◌}
use Rattle.cells.proofs.Spots.{spot_in}
use Rattle.positions.proofs.MemberLaws.{loop-begins, turn-holds, turn-within, loop_on, loop-ends}
use Rattle.machine.proofs.KeepLaws.{keeping-begins, keeping-with, keeping-same, keeping-ends}
use Rattle.machine.proofs.choice.serving.Goals as goal

pub loop-m-init : goal.loop-m-init
loop-m-init c = (
  tt,
  tt,
  loop-begins (c.into_iter-m-iterator.ensures.into_iter_gives ∙ c.members-m-items.ensures) (λ m h. keeping-begins _ _ _ _ _ _ m c.empty-r.ensures h),
)

pub cell-requires : goal.cell-requires
cell-requires c = spot_in _ _ _ _ _ c.requires.0 c.requires.1 (turn-within c.loop-m.invariant.2 c.in-Some.ensures.steps)

pub loop-m-preserved-then-meets : goal.loop-m-preserved-then-meets
loop-m-preserved-then-meets c =
    let going = c.loop-m.invariant.2 in
    let step = c.in-Some.ensures.steps in (
      tt,
      tt,
      loop_on going step (λ m h. keeping-with _ _ _ _ _ _ (omega (arith, c.requires.0.short)) _ m (turn-holds going step) (turn-within going step) h
          c.cell.ensures c.meets.ensures c.if-meets.true c.with-r.ensures),
    )

pub loop-m-preserved : goal.loop-m-preserved
loop-m-preserved c =
    let going = c.loop-m.invariant.2 in
    let step = c.in-Some.ensures.steps in (
      tt,
      tt,
      loop_on going step (λ m h. keeping-same _ _ _ _ _ _ (omega (arith, c.requires.0.short)) _ m (turn-holds going step) (turn-within going step) h
          c.cell.ensures c.meets.ensures c.if-meets.false),
    )

pub returns : goal.returns
returns c =
    let (m, l, x) = loop-ends c.loop-m.invariant.2 c.in-None.ensures.steps (omega (arith, c.requires.0.short)) in
    keeping-ends _ _ _ _ _ _ m x l
