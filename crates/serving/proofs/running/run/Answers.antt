-- The goals of `serving::running::run` that are not found.
use mathlib.Core.Path.{refl, ◌∙◌}
use native.Mathlib.Omega.{arith}
use Rattle.machine.proofs.LowestLaws.{numbered_none, numbered_some}
use Rattle.serving.proofs.RunLaws.{turning-begins, turning-serves, out-full, out_none, picked-small, picked-room, out-stuck, out-ended, turning-again}
use Rattle.serving.proofs.running.run.Goals as goal

pub loop-count-init : goal.loop-count-init
loop-count-init g c = (
  refl,
  refl,
  refl,
  turning-begins _ _ _ _ _ c.requires.0 c.requires.1 c.requires.2,
)

pub returns-then-count-row : goal.returns-then-count-row
returns-then-count-row g c =
    let x = c.loop-count.invariant.3 in
    (c.loop-count.invariant.0, out-full _ _ _ c.requires.0.told x c.if-count-row.true)

pub choose-pick-requires : goal.choose-pick-requires
choose-pick-requires g c =
    let x = c.loop-count.invariant.3 in
    (turning-serves _ _ _ c.requires.0.told x _ c.space_of-space.ensures, x.kept, x.knows)

pub returns-in_default : goal.returns-in_default
returns-in_default g c =
    let x = c.loop-count.invariant.3 in
    let y = numbered_none _ c.choose-pick.ensures.1 c.in_default.is in
    (c.choose-pick.ensures.0 ∙ c.loop-count.invariant.0, out_none _ _ _ c.requires.0.told x c.if-count-row.false y refl)

pub narrow-requires : goal.narrow-requires
narrow-requires g c =
    let x = c.loop-count.invariant.3 in
    let (n, y) = numbered_some _ c.choose-pick.ensures.1 c.in-Some.is in
    omega (arith, picked-small _ _ _ c.requires.0.told x c.if-count-row.false y n)

pub enter-requires : goal.enter-requires
enter-requires g c =
    let x = c.loop-count.invariant.3 in
    let (n, y) = numbered_some _ c.choose-pick.ensures.1 c.in-Some.is in
    record {
      ready = c.requires.0.told.ready;
      named = y.named n;
      room = picked-room _ _ _ c.requires.0.told x c.if-count-row.false y n c.space_of-space.ensures.base;
    }

pub returns-in-Ended : goal.returns-in-Ended
returns-in-Ended g c =
    let x = c.loop-count.invariant.3 in
    let (n, y) = numbered_some _ c.choose-pick.ensures.1 c.in-Some.is in (
      c.choose-pick.ensures.0 ∙ c.loop-count.invariant.0,
      out-ended _ _ _ c.requires.0.told x c.if-count-row.false y n c.narrow.ensures c.space_of-space.ensures.base c.enter.ensures c.in-Ended.is,
    )

pub returns-in-Stuck : goal.returns-in-Stuck
returns-in-Stuck g c =
    let x = c.loop-count.invariant.3 in
    let (n, y) = numbered_some _ c.choose-pick.ensures.1 c.in-Some.is in (
      c.choose-pick.ensures.0 ∙ c.loop-count.invariant.0,
      out-stuck _ _ _ c.requires.0.told x c.if-count-row.false y n c.narrow.ensures c.space_of-space.ensures.base c.enter.ensures c.in-Stuck.is,
    )

pub loop-count-preserved : goal.loop-count-preserved
loop-count-preserved g c =
    let x = c.loop-count.invariant.3 in
    let (n, y) = numbered_some _ c.choose-pick.ensures.1 c.in-Some.is in (
      c.choose-pick.ensures.0 ∙ c.loop-count.invariant.0,
      c.masks-1.given ∙ c.loop-count.invariant.1,
      c.tally-1.given ∙ c.loop-count.invariant.2,
      turning-again _ _ _ c.requires.0.told x c.if-count-row.false y n c.narrow.ensures c.space_of-space.ensures.base c.enter.ensures c.in-Calls.is,
    )
