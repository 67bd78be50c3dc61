-- `serving::running::run` meets its contract: each turn a nonterminal waits, takes the alternative that the definition's chooser takes from the same state, and
-- what is left from there ends as the whole reading does; each turn writes an entry of the row. What there is to choose by stands at each turn.
use mathlib.Core.Path.{◌≡◌}
use Prim.Native.Nat.{◌-◌}
use lib.ListN.{length}
use Rattle.grammar.specs.inside.Tables.{grammar_in}
use Rattle.derivation.specs.Runs.{marked}
use Rattle.derivation.specs.Machine.{reading}
use Rattle.serving.proofs.RunLaws.{Turning}
use Rattle.serving.proofs.running.run.Given as goal

abbrev pub invariant-loop-count : goal.invariant-loop-count
invariant-loop-count g l =
    (g.C.Choose.same l.by ≡ g.C.Choose.same l.initial.by)
    × (length l.masks ≡ length l.initial.masks) × (length l.tally ≡ length l.initial.tally)
    × Turning (g.C.Choose.chooser l.tables l.note)
    (reading (grammar_in l.tables) (marked l.note) (g.C.Choose.chooser l.tables l.note) (length l.initial.row) (g.C.Choose.state l.initial.by))
    (g.C.Choose.keeps l.by l.tables l.note l.masks l.tally l.ws) (g.C.Choose.knows l.tables l.note l.tally l.ws l.at.depth l.at.place l.a l.at.position)
    l.tables l.note l.initial.row l.initial.ws l.row l.masks l.tally l.ws (g.C.Choose.state l.by) l.count l.known l.at l.a

abbrev pub decreases-loop-count : goal.decreases-loop-count
decreases-loop-count g l = length l.row - l.count
