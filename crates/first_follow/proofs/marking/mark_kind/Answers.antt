-- `first_follow::marking::mark_kind` meets its contract: each set is joined from the one before it, and the two words of the kind are stored.
use native.Mathlib.Omega.{arith}
use lib.ListN.{length-set}
use Rattle.first_follow.proofs.JoinLaws.{kind-done}
use Rattle.first_follow.proofs.marking.mark_kind.Goals as goal

pub bounds-masks-t-4 : goal.bounds-masks-t-4
bounds-masks-t-4 c = simp length-set (omega arith)

pub returns : goal.returns
returns c = (
  simp length-set c.requires.1.masks-long,
  kind-done _ c.requires.1.masks-long _ _ _ _ c.requires.0 c.joined-starts.ensures
      c.joined-behind.ensures c.joined.ensures,
)
