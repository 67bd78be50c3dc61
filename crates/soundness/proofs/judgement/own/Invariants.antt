-- `soundness::judgement::own` meets its contract: before each turn the set holds those of the rows looked at so far, and a turn adds at most the number of the
-- next row.
use Prim.Native.Nat.{◌≤◌, ◌-◌}
use Rattle.soundness.specs.inside.Own.{OwnIs}
use Rattle.soundness.proofs.judgement.own.Given as goal

abbrev pub invariant-loop-a : goal.invariant-loop-a
invariant-loop-a l = (l.a ≤ l.n) × OwnIs l.rows l.a l.set

abbrev pub decreases-loop-a : goal.decreases-loop-a
decreases-loop-a l = l.n - l.a
