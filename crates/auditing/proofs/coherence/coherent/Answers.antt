-- `auditing::coherence::coherent` meets its contract: the layout, then equal states, then the records; each relies on those before it.
use mathlib.Core.Bool.{not}
use mathlib.Core.Path.{ap}
use Rattle.auditing.proofs.RecordSteps.{not-laid-out, few-held, not-single, records-decide}
use Rattle.auditing.proofs.coherence.coherent.Goals as goal

pub returns-then-not-laid_out : goal.returns-then-not-laid_out
returns-then-not-laid_out c = not-laid-out _ _ _ c.laid_out.ensures (ap not c.if-not-laid_out.true)

pub single-requires : goal.single-requires
single-requires c = record { long = c.requires.1; few = few-held _ _ _ c.laid_out.ensures (ap not c.if-not-laid_out.false) }

pub returns-then-not-single : goal.returns-then-not-single
returns-then-not-single c = not-single _ _ _ c.laid_out.ensures (ap not c.if-not-laid_out.false) c.single.ensures (ap not c.if-not-single.true)

pub recorded-requires : goal.recorded-requires
recorded-requires c = (c.requires.0, record { long = c.requires.1; few = few-held _ _ _ c.laid_out.ensures (ap not c.if-not-laid_out.false) })

pub returns : goal.returns
returns c =
    records-decide _ _ _ c.laid_out.ensures (ap not c.if-not-laid_out.false) c.single.ensures (ap not c.if-not-single.false)
    c.recorded.ensures
