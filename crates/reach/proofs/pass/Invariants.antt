-- `reach::pass` meets its contract: the places are closed one after the other: nobody stands there, or a step was made there before, or one is made now.
use mathlib.Core.Path.{◌≡◌}
use lib.ListN.{length}
use Rattle.grammar.specs.inside.Tables.{grammar_in}
use Rattle.reach.specs.inside.Passes.{PassedTo, Stepped}
use Rattle.reach.proofs.pass.Given as goal

abbrev pub invariant-loop-p : goal.invariant-loop-p
invariant-loop-p l =
    (length l.sets ≡ length l.initial.sets)
    × PassedTo (grammar_in l.tables) l.note l.p l.i l.grown l.initial.sets l.sets
    × Stepped l.tables l.note l.i l.stepped l.sets
