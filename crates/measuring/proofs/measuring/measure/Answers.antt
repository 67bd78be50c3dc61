-- `measuring::measuring::measure` meets its contract: what the check refuses is refused, and of a sound grammar the tables hold what the bytes say, so that
-- their three counts are its sizes.
use Rattle.std.proofs.lemmas.Result.{err_from_is_err_and}
use Rattle.measuring.proofs.SizeLaws.{measure-refused, measure-sound}
use Rattle.measuring.proofs.measuring.measure.Goals as goal

pub returns-in_err-compile : goal.returns-in_err-compile
returns-in_err-compile c =
    let p = err_from_is_err_and c.from_residual.result c.from_residual.ensures.1 in
    rw (p.1, p.2) (measure-refused _ c.compile.ensures c.in_err-compile.was)

pub returns : goal.returns
returns c =
    measure-sound _ c.compile.ensures c.in_ok-compile.was c.kinds.ensures c.nonterminals.ensures
    c.size.ensures
