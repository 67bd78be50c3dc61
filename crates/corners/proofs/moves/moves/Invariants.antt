-- `corners::moves::moves` meets its contract: what the set and the productions still to come lead to together is what all of them lead to.
use lib.ListN.{drop}
use Rattle.grammar.specs.inside.Tables.{grammar_in}
use Rattle.corners.proofs.LeftSteps.{Rest}
use Rattle.corners.proofs.moves.moves.Given as goal

abbrev pub invariant-loop-first : goal.invariant-loop-first
invariant-loop-first l = Rest (grammar_in l.tables) l.nullable l.a l.set (drop l.first-index l.first-items)
