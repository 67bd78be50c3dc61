-- `soundness::judgement::lowest_missing` meets its contract: no nonterminal before the one looked at is missing, so the search from there on gives what the
-- whole search gives.
use mathlib.Core.Path.{◌≡◌}
use mathlib.Core.Bool.{not}
use Prim.Native.Nat.{◌≤◌, ◌-◌}
use Rattle.base.specs.Bits.{test_bit}
use Rattle.base.specs.Search.{lowest_from}
use Rattle.soundness.proofs.judgement.lowest_missing.Given as goal

abbrev pub invariant-loop-a : goal.invariant-loop-a
invariant-loop-a l = (l.a ≤ l.n) × (lowest_from (λ a. not (test_bit l.set a)) l.a (l.n - l.a) ≡ lowest_from (λ a. not (test_bit l.set a)) 0 l.n)

abbrev pub decreases-loop-a : goal.decreases-loop-a
decreases-loop-a l = l.n - l.a
