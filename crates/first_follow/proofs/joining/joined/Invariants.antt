-- `first_follow::joining::joined` meets its contract: the set so far and the rows of the members still to come are together what is asked for.
use Rattle.first_follow.proofs.JoinLaws.{Joining}
use Rattle.first_follow.proofs.joining.joined.Given as goal

abbrev pub invariant-loop-x : goal.invariant-loop-x
invariant-loop-x l =
    (goal.iterator-loop-x).can_next l.x-iterator × (goal.iterator-loop-x).is_finite l.x-iterator × Joining l.rows l.set l.from l.x-iterator.left l.all
