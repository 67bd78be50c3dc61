-- `reach::highest` meets its contract: no position from k on is a member.
use mathlib.Core.Path.{◌≡◌}
use mathlib.Core.Bool.{false}
use Prim.Native.Nat.{ℕ, ◌≤◌}
use Rattle.positions.specs.inside.Positions.{member}
use Rattle.reach.proofs.highest.Given as goal

abbrev pub invariant-loop-k : goal.invariant-loop-k
invariant-loop-k l = (j : ℕ) → l.k ≤ j → j ≤ l.n → member l.s.words j ≡ false
