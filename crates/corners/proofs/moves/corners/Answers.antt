-- The goals of `corners::moves::corners` that are not found.
use mathlib.Core.Path.{sym, ◌∙◌}
use native.Mathlib.Omega.{arith}
use Rattle.corners.proofs.WidenLaws.{widens-begin, first-still, widens-none, widens-left, widens-joined, widened-all}
use Rattle.corners.proofs.moves.corners.Goals as goal

pub nonterminals-n-requires : goal.nonterminals-n-requires
nonterminals-n-requires c = c.requires.fits.long

pub below-requires : goal.below-requires
below-requires c = omega (arith, c.nonterminals-n.ensures, c.requires.fits.few)

pub loop-a-init : goal.loop-a-init
loop-a-init c = widens-begin _ _ _ _ c.requires c.nonterminals-n.ensures c.below.ensures c.opposite.ensures

pub bounds-rows-a : goal.bounds-rows-a
bounds-rows-a c = omega (arith, c.nonterminals-n.ensures, c.requires.fits.few, c.requires.long, c.loop-a.invariant.long)

pub widened-row-requires : goal.widened-row-requires
widened-row-requires c =
    let kept = c.loop-a.invariant.kept in (
      kept.fits,
      omega (arith, c.nonterminals-n.ensures, kept.number),
      first-still _ _ _ _ c.requires _ _ _ _ _ c.loop-a.invariant (omega arith) (omega (arith, c.nonterminals-n.ensures)),
    )

pub bounds-rows-a-then-first-ne0 : goal.bounds-rows-a-then-first-ne0
bounds-rows-a-then-first-ne0 c = omega (arith, c.nonterminals-n.ensures, c.requires.fits.few, c.requires.long, c.loop-a.invariant.long)

pub put_corners-requires : goal.put_corners-requires
put_corners-requires c = (omega (arith, c.nonterminals-n.ensures, c.requires.fits.few), c.loop-a.invariant.kept.fits.long)

pub with-done-requires : goal.with-done-requires
with-done-requires c = omega (arith, c.nonterminals-n.ensures, c.requires.fits.few)

pub loop-a-preserved-then-subset : goal.loop-a-preserved-then-subset
loop-a-preserved-then-subset c =
    widens-joined _ _ _ _ c.requires _ _ _ _ _ c.loop-a.invariant (omega arith)
    (omega (arith, c.nonterminals-n.ensures)) c.if-first-ne0.true _ c.widened-row.ensures c.put_corners.ensures
    c.subset.ensures c.if-subset.true c.with-done.ensures

pub loop-a-preserved-else-subset : goal.loop-a-preserved-else-subset
loop-a-preserved-else-subset c =
    widens-left _ _ _ _ c.requires _ _ _ _ _ c.loop-a.invariant (omega arith)
    (omega (arith, c.nonterminals-n.ensures)) c.if-first-ne0.true _ c.widened-row.ensures c.put_corners.ensures

pub loop-a-preserved : goal.loop-a-preserved
loop-a-preserved c =
    widens-none _ _ _ _ c.requires _ _ _ _ _ c.loop-a.invariant (omega arith)
    (omega (arith, c.nonterminals-n.ensures)) c.if-first-ne0.false

pub shape_of-tables : goal.shape_of-tables
shape_of-tables c = c.loop-a.invariant.kept.fits.long ∙ sym c.requires.fits.long

pub shape_of-rows : goal.shape_of-rows
shape_of-rows c = c.loop-a.invariant.long

pub returns : goal.returns
returns c = widened-all _ _ _ _ c.requires _ _ _ _ c.loop-a.invariant (omega arith)
