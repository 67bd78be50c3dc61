-- `reader::productions` meets its contract: what is left of the productions leaves the same as all of them did at the start; a turn reads one, and each way out
-- is one case of `productions_of`.
use mathlib.Core.Path.{◌≡◌}
use Prim.Native.Nat.{◌-◌, ◌≤◌}
use lib.ListN.{length}
use Rattle.reader.specs.inside.Pass.{productions_of}
use Rattle.grammar.specs.Limits.{max_places}
use Rattle.number.specs.Fetching.{Tallied}
use Rattle.reader.proofs.productions.Given as goal

abbrev pub invariant-loop-k : goal.invariant-loop-k
invariant-loop-k l =
    (l.k ≤ l.p) × (l.p ≤ max_places) × (l.k ≤ l.last) × (length l.tables ≡ length l.initial.tables)
    × (productions_of l.bytes l.kinds l.nonterminals l.owner (l.last - l.k) l.c.at l.p l.k l.tables
    ≡ productions_of l.bytes l.kinds l.nonterminals l.owner l.count l.initial.c.at l.first l.production l.initial.tables)
    × Tallied l.bytes l.c
