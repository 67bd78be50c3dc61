-- `words::bytes::write_bytes` meets its contract: each turn stores the word of the next four bytes, so those stored so far are the first of the packed bytes.
use Rattle.words.proofs.PackSteps.{Storing}
use Rattle.words.specs.Layout.{bytes_at}
use lib.ListN.{length}
use Prim.Native.Nat.{◌+◌, ◌-◌, ◌≤◌}
use mathlib.Core.Path.{◌≡◌}
use Rattle.words.proofs.bytes.write_bytes.Given as goal

abbrev pub invariant-loop-i : goal.invariant-loop-i
invariant-loop-i l = Storing l.bytes l.initial.cache l.cache l.i l.k × (length l.cache ≡ length l.initial.cache) × (l.k ≤ bytes_at + l.i)

abbrev pub decreases-loop-i : goal.decreases-loop-i
decreases-loop-i l = l.n - l.i
