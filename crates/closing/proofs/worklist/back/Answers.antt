-- `closing::worklist::back` meets its contract: a return place is popped, and an unknown caller is returned to behind every occurrence.
use native.Mathlib.Omega.{arith}
use Rattle.configurations.proofs.GrowSteps.{grow-cast, grow-room}
use Rattle.closing.proofs.WorklistLaws.{unknown-is, back_pop, back_full, back_start, back-other}
use Rattle.closing.proofs.worklist.back.Goals as goal

pub popped-requires : goal.popped-requires
popped-requires c = (c.requires.0.exact, omega (arith, c.entries.ensures))

pub add-requires : goal.add-requires
add-requires c = (c.requires.0.room, c.popped.ensures.exact)

pub returns-then-entries-ne0 : goal.returns-then-entries-ne0
returns-then-entries-ne0 c = grow-cast (back_pop _ _ c.popped.ensures) c.add.ensures

pub behind-requires : goal.behind-requires
behind-requires c = (c.requires.0, unknown-is _ _ c.entries.ensures (omega arith) c.requires.1)

pub returns-in_err-k : goal.returns-in_err-k
returns-in_err-k c =
    let caller = unknown-is _ _ c.entries.ensures (omega arith) c.requires.1 in
    rw c.from_residual.ensures (back_full _ _ _ caller.empty c.requires.1 c.behind.ensures c.in_err-k.was)

pub at-requires : goal.at-requires
at-requires c = (c.requires.0.exact, omega arith)

pub add-requires-then-a-eq0 : goal.add-requires-then-a-eq0
add-requires-then-a-eq0 c = (grow-room c.behind.ensures _ c.in_ok-k.was, c.at.ensures.exact)

pub returns-then-a-eq0 : goal.returns-then-a-eq0
returns-then-a-eq0 c =
    let caller = unknown-is _ _ c.entries.ensures (omega arith) c.requires.1 in
    grow-cast (back_start _ _ _ caller.empty c.requires.1 c.behind.ensures _ c.in_ok-k.was c.if-a-eq0.true
    c.at.ensures.is) c.add-then-a-eq0.ensures

pub returns : goal.returns
returns c =
    let caller = unknown-is _ _ c.entries.ensures (omega arith) c.requires.1 in
    back-other _ _ _ caller.empty c.requires.1 c.behind.ensures _ c.in_ok-k.was c.if-a-eq0.false
