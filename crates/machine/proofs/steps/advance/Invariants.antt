-- `machine::steps::advance` meets its contract: each turn is one move more from where it began, and it stops only where a nonterminal waits, where
-- nothing fits, or at the end of all; every move takes a token or leaves a frame.
use Prim.Native.Nat.{suc, ◌+◌, ◌-◌}
use Rattle.derivation.specs.Runs.{marked}
use Rattle.grammar.specs.inside.Tables.{grammar_in}
use Rattle.machine.specs.inside.Moves.{MovesOn}
use Rattle.machine.proofs.steps.advance.Given as goal

abbrev pub invariant-loop-d : goal.invariant-loop-d
invariant-loop-d l = MovesOn (grammar_in l.tables) (marked l.note) l.ws l.base l.initial.p l.initial.d l.initial.i l.p l.d l.i

abbrev pub decreases-loop-d : goal.decreases-loop-d
decreases-loop-d l = (suc l.n - l.i) + l.d
