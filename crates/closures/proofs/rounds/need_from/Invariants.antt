-- `closures::rounds::need_from` meets its contract: the need so far and that of the symbols still to come together are that of the whole; where a token
-- does not pass, no set will do.
use Rattle.grammar.specs.inside.Production.{symbols_left}
use Rattle.grammar.specs.Grammar.{suffix}
use Rattle.grammar.specs.inside.Tables.{grammar_in}
use Rattle.closures.proofs.NoteSteps.{Asks}
use Rattle.closures.proofs.rounds.need_from.Given as goal

abbrev pub invariant-loop-symbol : goal.invariant-loop-symbol
invariant-loop-symbol l =
    (goal.iterator-loop-symbol).can_next l.symbol-iterator × (goal.iterator-loop-symbol).is_finite l.symbol-iterator
    × Asks l.tokens (suffix (grammar_in l.fn.tables) l.fn.first) l.need (symbols_left l.symbol-iterator)
