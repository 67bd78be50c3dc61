-- `words::bytes::has_bytes` meets its contract: as long as no word differed, the bytes compared so far are the stored ones.
use Rattle.words.proofs.PackSteps.{Comparing}
use Prim.Native.Nat.{◌-◌}
use Rattle.words.proofs.bytes.has_bytes.Given as goal

abbrev pub invariant-loop-i : goal.invariant-loop-i
invariant-loop-i l = Comparing l.bytes l.cache l.i l.k

abbrev pub decreases-loop-i : goal.decreases-loop-i
decreases-loop-i l = l.n - l.i
