-- `splitter::cutting::cut` meets its contract: the kinds put down and what is left of the line give the kinds of the whole (`CutTo`).
use mathlib.Core.Path.{◌≡◌}
use Prim.Native.Nat.{◌-◌, ◌≤◌}
use lib.ListN.{length}
use Rattle.splitter.specs.Items.{max_split}
use Rattle.splitter.specs.inside.Index.{words_at}
use Rattle.splitter.proofs.ItemLaws.{CutTo}
use Rattle.splitter.proofs.cutting.cut.Given as goal

abbrev pub invariant-loop-i : goal.invariant-loop-i
invariant-loop-i l =
    CutTo (words_at l.words.list.now l.words.starts l.words.count) l.line l.kinds l.i l.k × (length l.kinds ≡ max_split)
    × (l.k ≤ max_split)

abbrev pub decreases-loop-i : goal.decreases-loop-i
decreases-loop-i l = l.n - l.i
