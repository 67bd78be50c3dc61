-- `splitter::splitting::split_by` meets its contract: each way out is one case of `from16`.
use native.Mathlib.Omega.{arith}
use Rattle.splitter.proofs.SplitLaws.{answer-16, answer-8, answer-14, cut-few, answer-0}
use Rattle.splitter.proofs.splitting.split_by.Goals as goal

pub returns-in-Some : goal.returns-in-Some
returns-in-Some c = answer-16 _ _ _ c.first_foreign.ensures c.in-Some.is

pub returns-in_default-cut : goal.returns-in_default-cut
returns-in_default-cut c = answer-8 _ _ _ c.first_foreign.ensures c.in_default.is _ _ c.cut.ensures c.in_default-cut.is

pub returns-then-tokens-k : goal.returns-then-tokens-k
returns-then-tokens-k c =
    answer-14 _ _ _ c.first_foreign.ensures c.in_default.is _ _ c.cut.ensures c.in-Some-cut.is c.if-tokens-k.true c.clear_from.ensures

pub put-requires : goal.put-requires
put-requires c = (cut-few _ c.args.tokens.now _ c.first_foreign.ensures c.in_default.is _ _ c.cut.ensures c.in-Some-cut.is, omega arith)

pub returns : goal.returns
returns c = answer-0 _ _ _ c.first_foreign.ensures c.in_default.is _ _ c.cut.ensures c.in-Some-cut.is c.if-tokens-k.false c.put.ensures
