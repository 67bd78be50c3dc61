-- `audit::judging::judge` meets its contract: a yes where the words are coherent, else 19.
use mathlib.Core.Path.{sym, ap}
use Rattle.audit.specs.inside.Asked.{judged_by}
use Rattle.audit.proofs.AuditLaws.{judged-is}
use Rattle.audit.proofs.judging.judge.Goals as goal

pub returns-then-coherent : goal.returns-then-coherent
returns-then-coherent c = judged-is _ _ _ c.coherent.ensures (sym (ap judged_by c.if-coherent.true))

pub returns : goal.returns
returns c = judged-is _ _ _ c.coherent.ensures (sym (ap judged_by c.if-coherent.false))
