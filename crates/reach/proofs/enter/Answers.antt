-- The goals of `reach::enter` that are not found.
use native.Mathlib.Omega.{arith}
use mathlib.Core.Path.{refl}
use Rattle.derivation.proofs.FirstLaws.{place-of}
use Rattle.derivation.proofs.ReadyLaws.{ready-size}
use Rattle.reach.proofs.EnterLaws.{enter-begin, enter_on, enter-end}
use Rattle.reach.proofs.enter.Goals as goal

pub loop-f-init : goal.loop-f-init
loop-f-init c = (refl, enter-begin _ _ _)

pub mark-grown-requires : goal.mark-grown-requires
mark-grown-requires c =
    let place = place-of _ c.requires.ready _ c.first_places-f-items.ensures _ c.loop-f-test.true c.from.ensures in
    record {
      place = omega (arith, place, ready-size _ c.requires.ready);
      position = c.requires.position;
      long = omega (arith, c.requires.long, c.loop-f.invariant.0);
    }

pub loop-f-preserved : goal.loop-f-preserved
loop-f-preserved c = (
  omega (arith, c.mark-grown.auto.sets),
  enter_on _ _ _ c.from.ensures c.loop-f-test.true c.loop-f.invariant.1 c.mark-grown.ensures,
)

pub returns : goal.returns
returns c = enter-end _ c.requires.ready _ _ _ c.first_places-f-items.ensures (omega arith) c.loop-f.invariant.1
