-- `allstar_c::allstar_audit` meets its contract: the number and the place stored are those of what `audit` answers.
use Rattle.allstar_c.proofs.Answers.{told-audit}
use Rattle.allstar_c.proofs.allstar_audit.Goals as goal

pub returns : goal.returns
returns c = told-audit c.audit-audited.result c.number.ensures c.place.ensures c.audit-audited.ensures
