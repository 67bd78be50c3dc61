-- The goals of `reach::settle` that are not found.
use mathlib.Core.Path.{refl, ◌∙◌}
use native.Mathlib.Omega.{arith}
use Rattle.positions.proofs.WordLaws.{total-le}
use Rattle.reach.proofs.PassLaws.{grown-none, grown-both, settle-end, stepped-none}
use Rattle.reach.proofs.settle.Goals as goal

pub loop-stepped-init : goal.loop-stepped-init
loop-stepped-init c = (refl, grown-none _ _ _ _, stepped-none _ _ _ _)

pub pass-requires : goal.pass-requires
pass-requires c =
    let start = c.requires in
    (record { given = start.given; here = start.here; long = c.loop-stepped.invariant.0 ∙ start.long }, c.loop-stepped.invariant.2)

pub shape_of-sets : goal.shape_of-sets
shape_of-sets c = omega (arith, c.pass.auto.sets)

pub returns : goal.returns
returns c = settle-end c.loop-stepped.invariant.1 c.pass.ensures c.loop-stepped-test.false

pub loop-stepped-smaller : goal.loop-stepped-smaller
loop-stepped-smaller c =
    let pass = c.pass in
    omega (
      arith,
      pass.ensures.to.grown c.loop-stepped-test.true,
      pass.auto.sets,
      total-le pass.new.sets (λ i. (c.slice_known-in-loop-stepped-1.given i).fits),
    )

pub loop-stepped-preserved : goal.loop-stepped-preserved
loop-stepped-preserved c =
    let pass = c.pass in
    (omega (arith, pass.auto.sets), grown-both _ _ _ c.loop-stepped.invariant.1 pass.ensures.to.sets, pass.ensures.stepped)
