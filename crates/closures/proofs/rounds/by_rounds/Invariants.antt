-- `closures::rounds::by_rounds` meets its contract: rounds only add what derives, so sets grow as numbers and the loop ends; a round that adds nothing ends at
-- the closure.
use Prim.Native.Nat.{◌<◌, ◌-◌, ◌^◌}
use Rattle.base.specs.Bits.{test_bit}
use Rattle.base.proofs.Fixpoint.{Within}
use Rattle.grammar.specs.inside.Tables.{grammar_in}
use Rattle.closures.specs.inside.Steps.{Derivers}
use Rattle.closures.proofs.rounds.by_rounds.Given as goal

abbrev pub invariant-loop-set : goal.invariant-loop-set
invariant-loop-set l = (l.set < 2 ^ 32) × Derivers l.tokens (grammar_in l.tables) l.set × Within (test_bit l.from) (test_bit l.set)

abbrev pub decreases-loop-set : goal.decreases-loop-set
decreases-loop-set l = 2 ^ 32 - l.set
