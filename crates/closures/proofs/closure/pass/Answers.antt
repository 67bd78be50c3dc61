-- The goals of `closures::closure::pass` that are not found.
use mathlib.Core.Path.{refl, sym}
use Rattle.closures.proofs.ClosureSteps.{a-candidate, judging-stays, judging-adds, judging-ends}
use Rattle.closures.proofs.closure.pass.Goals as goal
use Rattle.closures.proofs.closure.pass.Goals.{else-may-via-then-may+else-some_passes, else-may-via-else-may}

pub loop-a-preserved-then-some_passes : goal.loop-a-preserved-then-some_passes
loop-a-preserved-then-some_passes g c =
    let s = c.in-Some.ensures.steps in (
      tt,
      tt,
      judging-adds _ _ _ _ _ _ c.loop-a.invariant.2 _ c.requires.candidates _ _ s.0 s.1 c.some_passes.ensures c.if-some_passes.true _ c.with-set.ensures,
    )

pub loop-a-preserved : goal.loop-a-preserved
loop-a-preserved g c =
    let s = c.in-Some.ensures.steps in (
      tt,
      tt,
      elim c.else-may.branch [
        | else-may-via-then-may+else-some_passes w ↦
            judging-stays _ _ _ _ _ _ c.loop-a.invariant.2 _ c.requires.candidates _ _ s.0 s.1 w.some_passes.ensures w.if-some_passes.false
        | else-may-via-else-may w ↦
            let t = a-candidate _ _ _ _ _ _ c.loop-a.invariant.2 _ c.requires.candidates _ _ s.0 s.1 in
            judging-stays _ _ _ _ _ _ c.loop-a.invariant.2 _ c.requires.candidates _ _ s.0 s.1
            (sym (c.requires.turned_away _ _ t w.if-may.ensures)) refl
      ],
    )

pub returns : goal.returns
returns g c = judging-ends _ _ _ _ _ _ c.loop-a.invariant.2 c.in-None.ensures.steps.0
