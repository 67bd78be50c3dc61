-- `opening::descent::spread` meets its contract: set by set down the stack, each standing for where it began, until a mark or the lowest frame tells
-- whether the rest is read.
use Rattle.opening.proofs.ScatterLaws.{Spreading}
use Rattle.opening.proofs.descent.spread.Given as goal

abbrev pub invariant-loop-x : goal.invariant-loop-x
invariant-loop-x l =
    Spreading l.search.tables.now l.search.note.now l.search.masks.now l.initial.ws l.frames.base l.frames.depth l.frames.known l.p l.initial.x.words
    l.initial.meter l.ws l.meter l.q l.x.words l.k

abbrev pub decreases-loop-x : goal.decreases-loop-x
decreases-loop-x l = l.k
