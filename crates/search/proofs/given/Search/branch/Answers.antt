-- `search::given::Search::branch` meets its contract: the walk from the members of the pair's set tells where the alternative ends, and those ends are added.
use Rattle.std.proofs.lemmas.Result.{err_from_is_err_and}
use Rattle.search.proofs.ReplyLaws.{placed}
use Rattle.search.proofs.OverLaws.{set_is}
use Rattle.search.proofs.TryLaws.{walk_from, branch-halts, branch-joins}
use Rattle.search.proofs.given.Search.branch.Goals as goal

pub set_of-from-requires : goal.set_of-from-requires
set_of-from-requires c = placed c.requires.walk.searching c.requires.walk.sized c.requires.pair

pub walk-requires : goal.walk-requires
walk-requires c = walk_from (set_is c.requires.walk.sized _ _ _ c.set_of-from.ensures) c.requires.walk

pub returns-in_err-to : goal.returns-in_err-to
returns-in_err-to c =
    let p = err_from_is_err_and c.from_residual.result c.from_residual.ensures.1 in
    rw (p.1, p.2)
    (branch-halts _ _ _ _ _ _ (set_is c.requires.walk.sized _ _ _ c.set_of-from.ensures) c.walk.ensures c.in_err-to.was)

pub returns : goal.returns
returns c =
    branch-joins _ _ _ _ _ _ (set_is c.requires.walk.sized _ _ _ c.set_of-from.ensures) c.walk.ensures
    c.in_ok-to.was c.add_all.ensures.0 c.add_all.ensures.1
