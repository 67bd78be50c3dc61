-- `batch::parts::all_tokens` meets its contract: what is summed and what is left to sum make up the total, which 64 lengths of 16 bits keep small.
use mathlib.Core.Path.{◌≡◌}
use Prim.Native.Nat.{◌+◌, ◌*◌, ◌≤◌}
use lib.ListN.{length, drop}
use Rattle.batch.specs.Batches.{total}
use Rattle.batch.proofs.parts.all_tokens.Given as goal

abbrev pub invariant-loop-n : goal.invariant-loop-n
invariant-loop-n l = (l.sum + total (drop l.n-index l.lengths) ≡ total l.lengths) × (l.n-index ≤ length l.lengths) × (l.sum ≤ 65535 * l.n-index)
