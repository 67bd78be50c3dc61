-- `opening::choice::lowest` meets its contract: the stack is gone down by each alternative, the first one first, and the search goes on as long as none
-- serves. Where the budget is out nothing is said.
use Rattle.opening.proofs.ChoiceLaws.{Trying}
use Rattle.opening.proofs.choice.lowest.Given as goal

abbrev pub invariant-loop-k : goal.invariant-loop-k
invariant-loop-k l =
    Trying l.search.tables.now l.search.note.now l.search.masks.now l.initial.ws l.frames.base l.frames.depth l.frames.known l.pair.nonterminal l.pair.position
    l.initial.at l.k l.ws l.at
