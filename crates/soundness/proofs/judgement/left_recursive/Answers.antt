-- `soundness::judgement::left_recursive` meets its contract: a nonterminal from which moves end without one to itself is not left recursive, so where all
-- are such, none is refused; if moves end from every nonterminal, one is left recursive if its row, which says where one move leads, holds it; rows closed by
-- Warshall say where one or more moves lead, so of those it is always true. The tables hold the rows from before they are closed.
use mathlib.Core.Path.{◌∙◌}
use native.Mathlib.Omega.{arith}
use Rattle.corners.proofs.StoreLaws.{stored-corners}
use Rattle.soundness.proofs.Judging.{recursive-own, recursive-none, recursive-is}
use borrow.Author.Rules.{rules}
use Rattle.soundness.proofs.judgement.left_recursive.Goals as goal

pub returns-then-done-below : goal.returns-then-done-below
returns-then-done-below c =
    let (widened, settled) = c.corners-done.ensures in
    record {
      verdict = recursive-none _ _ _ c.nonterminals-n.ensures widened.corners settled (omega arith);
      kept = widened.stored.kept;
      cornered = stored-corners _ _ _ widened.corners widened.stored;
    }

pub all_end-requires : goal.all_end-requires
all_end-requires c = (search rules, search rules, c.corners-done.ensures.1.ending)

pub returns-then-all_end : goal.returns-then-all_end
returns-then-all_end c =
    let widened = c.corners-done.ensures.0 in
    record {
      verdict = c.lowest_own.ensures
          ∙ recursive-own _ _ _ c.nonterminals-n.ensures widened.corners (c.all_end.ensures c.if-all_end.true);
      kept = widened.stored.kept;
      cornered = stored-corners _ _ _ widened.corners widened.stored;
    }

pub returns : goal.returns
returns c =
    let widened = c.corners-done.ensures.0 in
    record {
      verdict = c.lowest_own-2.ensures
          ∙ recursive-is _ _ _ c.nonterminals-n.ensures widened.corners c.requires.fits
          (c.corners-done.auto.rows ∙ c.requires.long) c.reach.ensures;
      kept = widened.stored.kept;
      cornered = stored-corners _ _ _ widened.corners widened.stored;
    }
