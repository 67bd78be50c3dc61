-- `words::beginning::begin` meets its contract: the grammar is judged first, and only for a sound one is the cache touched.
use Rattle.std.proofs.lemmas.Result.{err_from_is_err_and}
use Rattle.soundness.proofs.VerdictLaws.{check-is}
use Rattle.words.proofs.BeginSteps.{refused-is, sound-is, sound-short}
use Rattle.words.proofs.beginning.begin.Goals as goal

pub settle-requires : goal.settle-requires
settle-requires c = sound-short _ c.args.cache.now (check-is _ _ c.check.ensures) c.in_ok-check.was

pub returns-in_err-check : goal.returns-in_err-check
returns-in_err-check c =
    let p = err_from_is_err_and c.from_residual.result c.from_residual.ensures.1 in
    rw (p.1, p.2) (refused-is _ _ (check-is _ _ c.check.ensures) c.in_err-check.was)

pub returns : goal.returns
returns c = sound-is _ _ (check-is _ _ c.check.ensures) c.in_ok-check.was c.settle.ensures
