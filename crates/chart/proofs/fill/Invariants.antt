-- `chart::fill` meets its contract: positions are settled from the last to the first, so that at each one the cells of all later positions are right.
use mathlib.Core.Path.{◌≡◌}
use Prim.Native.Nat.{◌+◌, ◌≤◌}
use lib.ListN.{length}
use Rattle.grammar.specs.inside.Tables.{grammar_in}
use Rattle.cells.specs.inside.Chart.{ChartedFrom, KeptBehind}
use Rattle.chart.proofs.fill.Given as goal

abbrev pub invariant-loop-i : goal.invariant-loop-i
invariant-loop-i l =
    (l.i ≤ length l.note + 1)
    × (length l.ws ≡ length l.initial.ws)
    × ChartedFrom l.tables l.note l.ws l.i
    × KeptBehind (grammar_in l.tables).size (length l.note) l.initial.ws l.ws
