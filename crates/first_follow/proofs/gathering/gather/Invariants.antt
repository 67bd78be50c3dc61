-- `first_follow::gathering::gather` meets its contract: at place p, what stands next to what is known of the places below it; each symbol that p may face
-- carries this one place on.
use Rattle.grammar.specs.inside.Tables.{grammar_in}
use Rattle.first_follow.proofs.PassLaws.{Passing}
use Rattle.first_follow.proofs.gathering.gather.Given as goal

abbrev pub invariant-loop-p : goal.invariant-loop-p
invariant-loop-p l =
    Passing (grammar_in l.tables) l.p l.lead l.ahead (record { masks = l.masks; above = l.above; before = l.before; last = l.last })
