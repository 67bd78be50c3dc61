-- `splitter::runs::digits_end` meets its contract: what is left of the row gives the same end.
use mathlib.Core.Path.{◌≡◌}
use Prim.Native.Nat.{◌+◌}
use lib.ListN.{length, drop}
use Rattle.splitter.specs.Items.{digit_run}
use Rattle.splitter.proofs.runs.digits_end.Given as goal

abbrev pub invariant-loop-i : goal.invariant-loop-i
invariant-loop-i l = l.i + length (digit_run (drop l.i l.b-items)) ≡ length (digit_run l.b-items)
