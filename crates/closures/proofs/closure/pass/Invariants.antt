-- `closures::closure::pass` meets its contract: one that is still to come was not judged yet, and one that is added is not in `from`, so that a pass that adds
-- nothing judged every candidate by `from`.
use Rattle.grammar.specs.inside.Tables.{grammar_in}
use Rattle.closures.proofs.ClosureSteps.{Judging}
use Rattle.closures.proofs.closure.pass.Given as goal

abbrev pub invariant-loop-a : goal.invariant-loop-a
invariant-loop-a g l =
    (goal.iterator-loop-a g).can_next l.a-iterator × (goal.iterator-loop-a g).is_finite l.a-iterator
    × Judging l.tokens (grammar_in l.tables) l.candidates l.from l.set l.a-iterator.left
