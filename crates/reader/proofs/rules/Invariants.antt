-- `reader::rules` meets its contract: what is left of the nonterminals leaves the same as all of them did at the start; there are never more productions than
-- places, so each has its word.
use mathlib.Core.Path.{◌≡◌}
use Prim.Native.Nat.{◌≤◌, ◌-◌}
use lib.ListN.{length}
use Rattle.reader.specs.inside.Pass.{nonterminals_of}
use Rattle.grammar.specs.Limits.{max_places}
use Rattle.number.specs.Fetching.{Tallied}
use Rattle.reader.proofs.rules.Given as goal

abbrev pub invariant-loop-a : goal.invariant-loop-a
invariant-loop-a l =
    (l.k ≤ l.p) × (l.p ≤ max_places) × (l.a ≤ l.nonterminals) × (length l.tables ≡ length l.initial.tables)
    × (nonterminals_of l.bytes l.kinds l.nonterminals l.a (l.nonterminals - l.a) l.c.at l.p l.k l.tables
    ≡ nonterminals_of l.bytes l.kinds l.nonterminals 0 l.nonterminals l.initial.c.at 0 0 l.initial.tables)
    × Tallied l.bytes l.c
