-- `number::is_legal` meets its contract: v is legal if the grammar has more symbols of its sort than are numbered below it; 0 would be token 0, the end mark.
use Rattle.number.proofs.NumberLaws.{legal-zero, legal-token, legal-nonterminal}
use Rattle.number.proofs.is_legal.Goals as goal
use Rattle.number.proofs.is_legal.Goals.{then-v-eq0, else-v-eq0}

pub returns-then-v-eq0-2 : goal.returns-then-v-eq0-2
returns-then-v-eq0-2 c = legal-zero _ _ _ c.if-v-eq0-2.true

pub returns : goal.returns
returns c =
    elim c.if-v-eq0.branch [
      | then-v-eq0 w ↦ rw w.limit-is (legal-token _ _ _ w.if-v-eq0.true c.if-v-eq0-2.false)
      | else-v-eq0 w ↦ rw w.limit-is (legal-nonterminal _ _ _ w.if-v-eq0.false)
    ]
