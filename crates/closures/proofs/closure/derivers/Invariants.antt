-- `closures::closure::derivers` meets its contract: passes only add what derives, so a pass that adds nothing, or one that leaves nothing out, ends
-- at the closure; what two passes leave open, rounds settle.
use Rattle.base.specs.Bits.{test_bit}
use Rattle.base.proofs.Fixpoint.{Within}
use Rattle.grammar.specs.inside.Tables.{grammar_in}
use Rattle.closures.specs.inside.Steps.{Derivers}
use Rattle.closures.proofs.closure.derivers.Given as goal

abbrev pub invariant-loop : goal.invariant-loop
invariant-loop g l = Derivers l.tokens (grammar_in l.tables) l.set × Within (test_bit l.from) (test_bit l.set)
