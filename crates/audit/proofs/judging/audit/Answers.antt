-- `audit::judging::audit` meets its contract: 1 to 7 as the check gives them, 12 and 13 by how the cache stands, and then its words are judged.
use Rattle.std.proofs.lemmas.Result.{err_from_is_err_and}
use Rattle.audit.proofs.AuditLaws.{grammar-is, cache-is, asks, begun-is}
use Rattle.audit.proofs.judging.audit.Goals as goal

pub returns-in_err-compile : goal.returns-in_err-compile
returns-in_err-compile c =
    let p = err_from_is_err_and c.from_residual.result c.from_residual.ensures.1 in
    rw (p.1, p.2) (grammar-is _ _ c.compile.ensures c.in_err-compile.was)

pub returns-in_err-stands : goal.returns-in_err-stands
returns-in_err-stands c =
    let p = err_from_is_err_and c.from_residual-in_err-stands.result c.from_residual-in_err-stands.ensures.1 in
    rw (p.1, p.2) (cache-is _ _ c.compile.ensures c.in_ok-compile.was c.stands.ensures c.in_err-stands.was)

pub judge-requires : goal.judge-requires
judge-requires c = asks _ _ c.compile.ensures c.in_ok-compile.was c.stands.ensures c.in_ok-stands.was

pub returns : goal.returns
returns c = begun-is _ _ c.compile.ensures c.in_ok-compile.was c.stands.ensures c.in_ok-stands.was c.judge.ensures
