-- The goals of `chart::fill` that are not found.
use mathlib.Core.Path.{refl}
use native.Mathlib.Omega.{arith}
use Rattle.cells.proofs.Spots.{behind-none, behind-on}
use Rattle.chart.proofs.RowLaws.{charted-none, row_next, filled}
use Rattle.chart.proofs.fill.Goals as goal

pub loop-i-init : goal.loop-i-init
loop-i-init c = (omega arith, refl, charted-none _ _ _ _ (omega arith), behind-none)

pub settle-requires : goal.settle-requires
settle-requires c =
    let inv = c.loop-i.invariant in
    (row_next _ _ _ _ _ c.requires.0 c.requires.1 inv.1 (omega arith) inv.0 inv.2, c.line_up.ensures)

pub loop-i-preserved : goal.loop-i-preserved
loop-i-preserved c =
    let inv = c.loop-i.invariant in
    let settled = c.settle.ensures in
    (omega arith, omega arith, settled.charted, behind-on inv.3 settled.behind)

pub returns : goal.returns
returns c = let inv = c.loop-i.invariant in filled _ _ _ _ _ (omega arith) inv.2 inv.1 inv.3
