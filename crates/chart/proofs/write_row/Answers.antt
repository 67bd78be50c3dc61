-- The goals of `chart::write_row` that are not found.
use mathlib.Core.Path.{refl}
use native.Mathlib.Omega.{arith}
use Rattle.cells.proofs.Spots.{spot_in, behind-none, behind-put}
use Rattle.ends.proofs.InRange.{row-lent}
use Rattle.chart.proofs.RowLaws.{written_none, written_on, written-ended, written_behind, written_all}
use Rattle.chart.proofs.write_row.Goals as goal

pub size-places-requires : goal.size-places-requires
size-places-requires c = c.requires.row.ready.fits.long

pub loop-p-init : goal.loop-p-init
loop-p-init c = (omega arith, refl, written_none _ _ _ _ c.size-places.ensures c.requires.row, behind-none)

pub derived-s-requires : goal.derived-s-requires
derived-s-requires c =
    let inv = c.loop-p.invariant.2 in
    record {
      ended = written-ended _ _ _ _ _ _ c.requires.long c.requires.right inv;
      within = omega (arith, c.loop-p.invariant.0, c.size-places.ensures);
      behind = written_behind _ _ _ _ _ (omega arith) inv;
    }

pub put-requires : goal.put-requires
put-requires c =
    let row = c.loop-p.invariant.2.row in
    spot_in _ _ _ _ _ (row-lent row c.size-places.ensures) (omega (arith, c.loop-p.invariant.0)) row.here

pub loop-p-preserved : goal.loop-p-preserved
loop-p-preserved c =
    let inv = c.loop-p.invariant.2 in (
      omega (arith, c.loop-p.invariant.0),
      omega arith,
      written_on _ _ _ _ _ _ _ c.size-places.ensures (omega arith) (omega (arith, c.loop-p.invariant.0)) inv c.requires.right
          c.derived-s.ensures c.put.ensures,
      behind-put _ _ _ _ _ c.loop-p.invariant.3 (omega (arith, c.loop-p.invariant.0)) inv.row.here c.put.ensures,
    )

pub returns : goal.returns
returns c = written_all _ _ _ _ _ _ c.size-places.ensures (omega arith) c.loop-p.invariant.2 c.loop-p.invariant.3
