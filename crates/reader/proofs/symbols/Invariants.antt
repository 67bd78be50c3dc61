-- `reader::symbols` meets its contract: what is left of the symbols leaves the same as all of them did at the start, and a legal symbol within the limits has a
-- code that fits its word.
use mathlib.Core.Path.{◌≡◌}
use Prim.Native.Nat.{◌-◌, ◌≤◌}
use lib.ListN.{length}
use Rattle.reader.specs.inside.Pass.{symbols_of}
use Rattle.number.specs.Fetching.{Tallied}
use Rattle.reader.proofs.symbols.Given as goal

abbrev pub invariant-loop-p : goal.invariant-loop-p
invariant-loop-p l =
    (l.p ≤ l.end) × (length l.tables ≡ length l.initial.tables)
    × (symbols_of l.bytes l.kinds l.nonterminals l.owner (l.end - l.p) l.c.at l.p l.tables
    ≡ symbols_of l.bytes l.kinds l.nonterminals l.owner l.count l.initial.c.at l.first l.initial.tables)
    × Tallied l.bytes l.c
