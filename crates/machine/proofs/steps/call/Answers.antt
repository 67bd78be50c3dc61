-- `machine::steps::call` meets its contract: with no frame below, the reading begins, and the end place derives the rest only from the note's end; else
-- the set of the topmost frame says from where the return place leads on. So the lowest alternative that can end in the set is the plain chooser's.
use native.Mathlib.Omega.{arith}
use Rattle.machine.proofs.CallLaws.{calling-at, calling-chooses, ahead-end, ahead-over, call-leaves, lent_of}
use Rattle.machine.proofs.LowestLaws.{numbered-map}
use Rattle.machine.proofs.WaitLaws.{waits-named, waits-place, waits-frames}
use Rattle.machine.proofs.steps.call.Goals as goal

pub with-s-requires : goal.with-s-requires
with-s-requires c = omega (arith, c.requires.lent.short)

pub choose-requires : goal.choose-requires
choose-requires c = calling-chooses _ _ _ (λ k. (c.slice_known-1.given k).fits) _ _ _ c.requires

pub returns-then-at-eq0 : goal.returns-then-at-eq0
returns-then-at-eq0 c =
    numbered-map _ (λ r x. call-leaves _ _ _ (λ k. (c.slice_known-1.given k).fits) _ _ _ c.requires _
    (ahead-end _ _ _ (λ k. (c.slice_known-1.given k).fits) _ _ _ c.requires c.if-at-eq0.true c.empty.ensures
    c.with-s.ensures) x.0 x.1) c.choose.ensures

pub ends_of-ends-requires : goal.ends_of-ends-requires
ends_of-ends-requires c =
    record {
      ready = c.requires.ready;
      lent = calling-at _ _ _ (λ k. (c.slice_known-1.given k).fits) _ _ _ c.requires;
      named = waits-named _ c.requires.ready _ c.requires.waits;
    }

pub rest-rest-requires : goal.rest-rest-requires
rest-rest-requires c = omega (arith, c.requires.spaced.base, waits-frames _ c.requires.ready _ c.requires.lent c.requires.waits)

pub serving-s-requires : goal.serving-s-requires
serving-s-requires c = (
  lent_of c.requires.spaced.places c.requires.lent,
  rw c.requires.spaced.places (waits-place _ c.requires.ready _ c.requires.waits c.if-at-eq0.false),
)

pub choose-requires-2 : goal.choose-requires-2
choose-requires-2 c = calling-chooses _ _ _ (λ k. (c.slice_known-1.given k).fits) _ _ _ c.requires

pub returns : goal.returns
returns c =
    numbered-map _ (λ r x. call-leaves _ _ _ (λ k. (c.slice_known-1.given k).fits) _ _ _ c.requires _
    (ahead-over _ _ _ (λ k. (c.slice_known-1.given k).fits) _ _ _ c.requires _ _ _ c.if-at-eq0.false c.ends_of-ends.ensures
    c.rest-rest.ensures c.serving-s.ensures) x.0 x.1) c.choose-2.ensures
