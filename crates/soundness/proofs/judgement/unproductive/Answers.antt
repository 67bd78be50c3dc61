-- `soundness::judgement::unproductive` meets its contract: the set holds exactly the nonterminals that derive some row of tokens, so the lowest that it misses
-- is the lowest of 6, and a full set misses none.
use Rattle.soundness.proofs.Judging.{unproductive-is, productive-all}
use mathlib.Core.Path.{◌∙◌}
use native.Mathlib.Omega.{arith}
use Rattle.soundness.proofs.judgement.unproductive.Goals as goal

pub returns-then-productive-below : goal.returns-then-productive-below
returns-then-productive-below c = productive-all _ _ _ c.productive-productive.ensures c.nonterminals-n.ensures (omega arith)

pub returns : goal.returns
returns c = c.lowest_missing.ensures ∙ unproductive-is _ _ _ c.productive-productive.ensures c.nonterminals-n.ensures
