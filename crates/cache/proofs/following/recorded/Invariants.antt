-- `cache::following::recorded` meets its contract: each turn of the loop follows one recorded step more, so what is said last, unless it is 0, leads over
-- the tokens that are left to what is predicted from the start over all of them.
use Prim.Native.Nat.{suc, ◌-◌, ◌≤◌}
use Rattle.cache.proofs.FollowSteps.{Following}
use Rattle.cache.proofs.following.recorded.Given as goal

abbrev pub invariant-loop-s : goal.invariant-loop-s
invariant-loop-s l = Following l.a l.note l.cache l.i l.j l.said × (l.j ≤ suc l.n)

abbrev pub decreases-loop-s : goal.decreases-loop-s
decreases-loop-s l = suc l.n - l.j
