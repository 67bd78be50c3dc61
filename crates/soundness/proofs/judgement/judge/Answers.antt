-- `soundness::judgement::judge` meets its contract: each way out, 7 refused or 6 asked, is one case of `judge_of`; 6 is asked of the tables that the search for
-- 7 leaves, which say the same grammar.
use Rattle.std.proofs.lemmas.Result.{err_from_is_err_and}
use Rattle.soundness.proofs.Judging.{still-nullable, found-widening, judge-first, judge-second}
use borrow.Author.Rules.{rules}
use Rattle.soundness.proofs.judgement.judge.Goals as goal

pub left_recursive-requires : goal.left_recursive-requires
left_recursive-requires c = found-widening c.requires (search rules) c.heads-heads.ensures

pub unproductive-requires : goal.unproductive-requires
unproductive-requires c =
    let kept = c.left_recursive.ensures.kept in
    (kept.fits, still-nullable kept _ c.heads-heads.ensures.vanish)

pub returns-in_err-left_recursive : goal.returns-in_err-left_recursive
returns-in_err-left_recursive c =
    let p = err_from_is_err_and c.from_residual.result c.from_residual.ensures.1 in
    rw (p.1, p.2) (judge-first c.left_recursive.ensures c.in_err-left_recursive.was)

pub returns : goal.returns
returns c = judge-second c.left_recursive.ensures c.in_ok-left_recursive.was c.unproductive.ensures
