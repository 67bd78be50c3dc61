-- The goals of `order::sweep` that are not found.
use mathlib.Core.Path.{refl}
use native.Mathlib.Omega.{arith}
use Rattle.order.proofs.PlacingLaws.{placing-on, placing-fits}
use Rattle.order.proofs.SweepLaws.{none_yet, none_more, turn-named, sweep-grows}
use Rattle.order.proofs.sweep.Goals as goal
use Rattle.order.proofs.sweep.Goals.{then-ripe, else-ripe}

pub nonterminals-n-requires : goal.nonterminals-n-requires
nonterminals-n-requires c = c.requires.ready.fits.long

pub loop-k-init : goal.loop-k-init
loop-k-init c = (refl, omega arith, c.requires.placing, λ _. none_yet _ _ _ _)

pub corner_row-row-requires : goal.corner_row-row-requires
corner_row-row-requires c =
    let l = turn-named _ _ _ c.turn-a.ensures c.loop-k-test.true c.nonterminals-n.ensures in
    (omega (arith, c.requires.ready.fits.few), c.requires.ready.fits.long)

pub ripe-requires : goal.ripe-requires
ripe-requires c =
    let l = turn-named _ _ _ c.turn-a.ensures c.loop-k-test.true c.nonterminals-n.ensures in
    omega (arith, c.requires.ready.fits.few)

pub place-placed-requires : goal.place-placed-requires
place-placed-requires c =
    let l = turn-named _ _ _ c.turn-a.ensures c.loop-k-test.true c.nonterminals-n.ensures in (
      placing-fits _ _ _ _ _ c.requires.ready c.loop-k.invariant.2 l c.corner_row-row.ensures
          c.ripe.ensures c.if-ripe.true,
      omega (arith, c.requires.ready.fits.few),
    )

pub loop-k-preserved : goal.loop-k-preserved
loop-k-preserved c =
    let (o, l, p, x) = c.loop-k.invariant in
    let row = c.corner_row-row.ensures in
    let named = turn-named _ _ _ c.turn-a.ensures c.loop-k-test.true c.nonterminals-n.ensures in
    elim c.if-ripe.branch [
      | then-ripe w ↦
          let more = w.place-placed.ensures in
          rw (w.order-is, w.placed-is) (
            omega (arith, w.place-placed.auto.order),
            omega (arith, l, more.1),
            placing-on _ _ _ _ _ c.requires.ready p named row c.ripe.ensures w.if-ripe.true more.0 more.1 more.2,
            λ e. absurd (omega (arith, l, more.1)),
          )
      | else-ripe w ↦ rw (w.order-is, w.placed-is) (o, l, p, λ e. none_more _ _ _ _ _ (x e) c.turn-a.ensures row c.ripe.ensures w.if-ripe.false)
    ]

pub returns : goal.returns
returns c = (
  c.loop-k.invariant.2,
  sweep-grows _ _ _ _ _ _ _ c.requires.ready c.loop-k.invariant.2 c.nonterminals-n.ensures c.requires.left
      c.loop-k.invariant.1
      c.loop-k.invariant.3 (omega arith),
)
