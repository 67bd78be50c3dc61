-- `closing::worklist::seek` meets its contract: up to q nothing is found, and nothing is passed over from within a block.
use Prim.Native.Nat.{◌-◌}
use Rattle.grammar.specs.inside.Tables.{grammar_in}
use Rattle.closing.specs.inside.Moving.{Sought}
use Rattle.closing.proofs.worklist.seek.Given as goal

abbrev pub invariant-loop-q : goal.invariant-loop-q
invariant-loop-q l = Sought (grammar_in l.tables) l.a l.p l.n l.q

abbrev pub decreases-loop-q : goal.decreases-loop-q
decreases-loop-q l = l.n - l.q
