-- `opening::leading::lead` meets its contract: at each turn the place leads somewhere, or a pair is needed, which is then worked out; each turn costs budget.
use Rattle.grammar.specs.inside.Tables.{grammar_in}
use Rattle.derivation.specs.Runs.{marked}
use Rattle.derivation.specs.inside.Reach.{Reach}
use Rattle.opening.proofs.LeadLaws.{Turned}
use Rattle.opening.proofs.leading.lead.Given as goal

abbrev pub invariant-loop-pair : goal.invariant-loop-pair
invariant-loop-pair l =
    Turned l.search.tables.now l.search.note.now l.search.masks.now l.initial.ws
    (Reach (grammar_in l.search.tables.now) (marked l.search.note.now) l.p l.i) l.initial.meter l.ws l.meter

abbrev pub decreases-loop-pair : goal.decreases-loop-pair
decreases-loop-pair l = l.meter.left
