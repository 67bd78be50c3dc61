-- `cells::onward` meets its contract: each turn joins the cell at the next member, and what lies between two members adds nothing.
use Rattle.positions.proofs.MemberLaws.{Loop}
use Rattle.cells.proofs.ThroughLaws.{GoingThrough}
use Rattle.cells.proofs.onward.Given as goal

abbrev pub invariant-loop-m : goal.invariant-loop-m
invariant-loop-m l =
    (goal.iterator-loop-m).can_next l.m-iterator
    × (goal.iterator-loop-m).is_finite l.m-iterator
    × Loop l.fn.s l.n l.m-iterator (λ m. GoingThrough l.places l.ws l.n l.fn.s.words l.q l.fn.begun.words l.from m l.r.words)
