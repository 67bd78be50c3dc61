-- The goals of `ends::look` that are not found.
use native.Mathlib.Omega.{arith}
use Rattle.derivation.proofs.FirstLaws.{place-of}
use Rattle.cells.proofs.GatherLaws.{gather-begins, gather-more, gather-ends}
use Rattle.ends.proofs.BegunLaws.{begun-members}
use Rattle.ends.proofs.LookLaws.{looked}
use Rattle.ends.proofs.look.Goals as goal

pub loop-f-init : goal.loop-f-init
loop-f-init c = gather-begins _ _ c.empty-r.ensures

pub begun-t-requires : goal.begun-t-requires
begun-t-requires c =
    record {
      row = c.requires.row;
      long = c.requires.long;
      within = place-of _ c.requires.row.ready _ c.first_places-f-items.ensures _ c.loop-f-test.true c.from.ensures;
    }

pub loop-f-preserved : goal.loop-f-preserved
loop-f-preserved c =
    gather-more _ _ _ _ _ c.loop-f.invariant c.loop-f-test.true c.from.ensures (begun-members _ _ _ _ _ _ _ c.begun-t.ensures)
    c.union-r.ensures

pub overflow_mul-a : goal.overflow_mul-a
overflow_mul-a c = omega (arith, c.requires.named, c.requires.row.ready.fits.few)

pub put-requires : goal.put-requires
put-requires c = omega (arith, c.requires.named, c.requires.long, c.requires.row.ready.fits.few)

pub returns : goal.returns
returns c =
    looked _ _ _ _ c.requires.row _ _ _ c.requires.named c.requires.long
    (gather-ends _ _ c.first_places-f-items.ensures _ _ c.loop-f.invariant (omega arith)) c.put.ensures
