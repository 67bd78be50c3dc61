-- `opening::leading::spread` meets its contract: at each turn the set leads somewhere, or a pair is needed, which is then worked out; each turn costs
-- budget.
use Prim.Native.Nat.{ℕ}
use lib.Dec.{T}
use Rattle.grammar.specs.inside.Tables.{grammar_in}
use Rattle.positions.specs.inside.Positions.{member}
use Rattle.derivation.specs.Runs.{marked}
use Rattle.derivation.specs.inside.Reach.{Reach}
use Rattle.opening.proofs.LeadLaws.{Turned}
use Rattle.opening.proofs.leading.spread.Given as goal

abbrev pub invariant-loop-to : goal.invariant-loop-to
invariant-loop-to l =
    Turned l.search.tables.now l.search.note.now l.search.masks.now l.initial.ws
    ((i : ℕ) → T (member l.from.words i) → Reach (grammar_in l.search.tables.now) (marked l.search.note.now) l.p i) l.initial.meter l.ws l.meter

abbrev pub decreases-loop-to : goal.decreases-loop-to
decreases-loop-to l = l.meter.left
