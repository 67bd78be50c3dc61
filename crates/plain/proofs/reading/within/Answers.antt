-- `plain::reading::within` meets its contract: the gate is the definition's, and where it is passed the tables hold the grammar by which the note is read.
use Rattle.std.proofs.lemmas.Result.{err_from_is_err_and}
use Rattle.plain.proofs.ReadingLaws.{shut-is, passed_is}
use Rattle.plain.proofs.reading.within.Goals as goal

pub read-requires : goal.read-requires
read-requires c = c.pass.ensures.admits c.in_ok-pass.was

pub returns-in_err-pass : goal.returns-in_err-pass
returns-in_err-pass c =
    let p = err_from_is_err_and c.from_residual.result c.from_residual.ensures.1 in
    rw (p.1, p.2) (shut-is _ _ _ _ c.pass.ensures c.in_err-pass.was)

pub returns : goal.returns
returns c = passed_is _ _ _ _ c.pass.ensures c.in_ok-pass.was c.read.ensures
