-- `reach::settle` meets its contract: each pass that finds something new raises the sum of the words, so passes end; one that finds nothing leaves the
-- sets closed.
use mathlib.Core.Path.{◌≡◌}
use Prim.Native.Nat.{◌*◌, ◌^◌, ◌-◌}
use lib.ListN.{length}
use Rattle.grammar.specs.inside.Tables.{grammar_in}
use Rattle.positions.specs.inside.Words.{total}
use Rattle.reach.specs.inside.Passes.{SetsGrown, Stepped}
use Rattle.reach.proofs.settle.Given as goal

abbrev pub invariant-loop-stepped : goal.invariant-loop-stepped
invariant-loop-stepped l =
    (length l.sets ≡ length l.initial.sets) × SetsGrown (grammar_in l.tables) l.note l.i l.initial.sets l.sets × Stepped l.tables l.note l.i l.stepped l.sets

abbrev pub decreases-loop-stepped : goal.decreases-loop-stepped
decreases-loop-stepped l = length l.sets * 2 ^ 32 - total l.sets
