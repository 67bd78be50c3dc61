-- `positions::join` meets its contract: the set at `at` is read, joined and put back; where the two sets have the same words, nothing had to be put, and else a
-- word grew.
use borrow.Author.Tests.{tests}
use Rattle.std.proofs.Common.{rules}
use native.Mathlib.Omega.{arith}
use Rattle.positions.proofs.JoinLaws.{join-same, join-grown}
use Rattle.positions.proofs.join.Goals as goal

pub returns-then-eq : goal.returns-then-eq
returns-then-eq c = join-same _ _ _ c.read-old.ensures c.union-new.ensures (search (rules, tests))

pub returns : goal.returns
returns c =
    join-grown _ _ _ c.read-old.ensures c.union-new.ensures (λ e. search (rules, tests)) (omega arith)
    c.put.ensures
