-- The goals of `cells::ends_of` that are not found.
use mathlib.Core.Path.{sym, ◌∙◌}
use native.Mathlib.Omega.{arith}
use Rattle.cells.proofs.Spots.{spot_in, cell-member, sized, lent-sized}
use Rattle.derivation.proofs.FirstLaws.{place-of}
use Rattle.cells.proofs.GatherLaws.{gather-begins, gather-more, gather-cells}
use Rattle.cells.proofs.ends_of.Goals as goal

pub loop-f-init : goal.loop-f-init
loop-f-init c = gather-begins _ _ c.empty-r.ensures

pub cell-t-requires : goal.cell-t-requires
cell-t-requires c =
    spot_in _ _ _ _ _ (lent-sized c.size-places.ensures c.requires.lent.lent)
    (omega (
      arith,
      c.size-places.ensures,
      place-of _ c.requires.ready _ c.first_places-f-items.ensures _ c.loop-f-test.true c.from.ensures,
    )) c.requires.lent.here

pub loop-f-preserved : goal.loop-f-preserved
loop-f-preserved c =
    gather-more _ _ _ _ _ c.loop-f.invariant c.loop-f-test.true c.from.ensures
    (λ j l. cell-member _ _ _ _ _ c.cell-t.ensures l ∙ sym (sized c.size-places.ensures _ _ _ _)) c.union-r.ensures

pub returns : goal.returns
returns c = gather-cells _ _ _ _ _ _ c.first_places-f-items.ensures c.loop-f.invariant (omega arith)
