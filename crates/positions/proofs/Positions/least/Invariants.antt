-- `Positions::least` meets its contract: words are searched from the one of `from` on, and every word passed had no member from `from` on (`Clear`).
use Prim.Native.Nat.{◌+◌, ◌*◌, ◌≤◌, ◌<◌}
use Rattle.positions.proofs.NextLaws.{Clear}
use Rattle.base.specs.Bits.{word_bits}
use Rattle.positions.proofs.Positions.least.Given as goal

abbrev pub invariant-loop-w : goal.invariant-loop-w
invariant-loop-w l = (l.k < word_bits) × (l.from ≤ l.w * word_bits + l.k) × Clear l.self.words l.from (l.w * word_bits + l.k)
