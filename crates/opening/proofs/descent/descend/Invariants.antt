-- `opening::descent::descend` meets its contract: place by place down the stack, each standing for where it began, until a mark or the lowest frame tells
-- whether the rest is read, the place leads nowhere, or it leads to several positions.
use Rattle.opening.proofs.DescentLaws.{Downwards}
use Rattle.opening.proofs.descent.descend.Given as goal

abbrev pub invariant-loop-way : goal.invariant-loop-way
invariant-loop-way l =
    Downwards l.search.tables.now l.search.note.now l.search.masks.now l.initial.ws l.frames.base l.frames.depth l.frames.known l.q l.i l.initial.meter l.ws
    l.meter l.p l.j l.k

abbrev pub decreases-loop-way : goal.decreases-loop-way
decreases-loop-way l = l.k
