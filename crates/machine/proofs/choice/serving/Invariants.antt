-- `machine::choice::serving` meets its contract: the members of `ends` are gone through in order, and each is kept exactly if place q leads from it
-- into `rest`.
use Rattle.positions.proofs.MemberLaws.{Loop}
use Rattle.machine.proofs.KeepLaws.{Keeping}
use Rattle.machine.proofs.choice.serving.Given as goal

abbrev pub invariant-loop-m : goal.invariant-loop-m
invariant-loop-m l =
    (goal.iterator-loop-m).can_next l.m-iterator
    × (goal.iterator-loop-m).is_finite l.m-iterator
    × Loop l.fn.ends l.n l.m-iterator (λ m. Keeping l.places l.ws l.n l.fn.ends.words l.q l.rest.words m l.r.words)
