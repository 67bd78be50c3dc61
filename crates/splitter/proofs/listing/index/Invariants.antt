-- `splitter::listing::index` meets its contract: what is left of the list, behind the words that are indexed, gives what the whole says (`ListedTo`).
use mathlib.Core.Path.{◌≡◌}
use lib.ListN.{length}
use Prim.Native.Nat.{◌-◌}
use Rattle.splitter.proofs.ListLaws.{ListedTo}
use Rattle.splitter.proofs.listing.index.Given as goal

abbrev pub invariant-loop-at : goal.invariant-loop-at
invariant-loop-at l = ListedTo l.list l.words.starts l.words.links l.words.count l.at × (l.words.list.now ≡ l.list)

abbrev pub decreases-loop-at : goal.decreases-loop-at
decreases-loop-at l = length l.list - l.at
