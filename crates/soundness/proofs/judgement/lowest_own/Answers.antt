-- `soundness::judgement::lowest_own` meets its contract: the set holds exactly the nonterminals whose row holds them, so the search finds none if it is empty,
-- and otherwise its lowest member, which its trailing zeros give.
use native.Mathlib.Omega.{arith}
use Rattle.soundness.proofs.OwnLaws.{own-sound, own-refused}
use Rattle.soundness.proofs.judgement.lowest_own.Goals as goal

pub returns-then-set-eq0 : goal.returns-then-set-eq0
returns-then-set-eq0 c = own-sound _ _ _ c.own-set.ensures (omega arith)

pub returns : goal.returns
returns c = own-refused _ _ _ c.own-set.ensures (omega arith) (omega arith) c.number.ensures
