-- `auditing::records::names` meets its contract: a word that records no state names no slot, nor does one of a slot that is not held; then the slot decides.
use mathlib.Core.Path.{◌∙◌}
use borrow.Author.Tests.{le-ltb}
use Rattle.auditing.proofs.RecordSteps.{no-state, unheld, held-decides}
use Rattle.auditing.proofs.records.names.Goals as goal

pub returns-then-s-held : goal.returns-then-s-held
returns-then-s-held c = held-decides _ _ _ _ _ c.in-Some.ensures c.held.ensures c.if-s-held.true c.holds.ensures

pub returns-else-s-held : goal.returns-else-s-held
returns-else-s-held c = le-ltb _ _ c.if-s-held.false ∙ unheld _ _ _ _ _ c.in-Some.ensures c.held.ensures c.if-s-held.false

pub returns-in-None : goal.returns-in-None
returns-in-None c = no-state _ _ _ _ c.in-None.ensures
