-- `chart::write_row` meets its contract: each cell follows from the one of the place behind it, which is written before; no cell of a later position and
-- nothing behind the cells is changed.
use mathlib.Core.Path.{◌≡◌}
use Prim.Native.Nat.{◌≤◌}
use lib.ListN.{length}
use Rattle.cells.specs.inside.Chart.{KeptBehind}
use Rattle.chart.proofs.RowLaws.{Written}
use Rattle.chart.proofs.write_row.Given as goal

abbrev pub invariant-loop-p : goal.invariant-loop-p
invariant-loop-p l =
    (l.p ≤ l.places) × (length l.ws ≡ length l.initial.ws) × Written l.tables l.note l.i l.p l.ws
    × KeptBehind l.places (length l.note) l.initial.ws l.ws
