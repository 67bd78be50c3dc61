-- `corners::moves::left_from` meets its contract: what the set and the symbols still to come lead to together is what the whole leads to; a token or a
-- nonterminal that is not nullable ends it.
use Rattle.grammar.specs.inside.Production.{symbols_left}
use Rattle.grammar.specs.Grammar.{suffix}
use Rattle.grammar.specs.inside.Tables.{grammar_in}
use Rattle.corners.proofs.LeftSteps.{Onward}
use Rattle.corners.proofs.moves.left_from.Given as goal

abbrev pub invariant-loop-symbol : goal.invariant-loop-symbol
invariant-loop-symbol l =
    (goal.iterator-loop-symbol).can_next l.symbol-iterator × (goal.iterator-loop-symbol).is_finite l.symbol-iterator
    × Onward l.nullable l.from (suffix (grammar_in l.fn.tables) l.fn.first) l.set (symbols_left l.symbol-iterator)
