-- `serving::tabling::full` meets its contract: cells and sets are right before the plain choice is asked, and no return place has changed by that.
use native.Mathlib.Omega.{arith}
use Rattle.machine.proofs.LowestLaws.{numbered-map}
use Rattle.serving.proofs.WaitingLaws.{first-asks, first_finds, over-place, over-standing, over-asks, over-finds}
use Rattle.serving.proofs.tabling.full.Goals as goal

pub fill-requires : goal.fill-requires
fill-requires c = (c.requires.ready, c.requires.lent)

pub call-requires : goal.call-requires
call-requires c = first-asks _ _ _ c.requires c.if-at-eq0.true c.fill.ensures

pub returns-then-at-eq0 : goal.returns-then-at-eq0
returns-then-at-eq0 c = numbered-map _ (λ r x. first_finds _ _ _ c.requires c.if-at-eq0.true c.fill.ensures x) c.call.ensures

pub overflow_sub-caller : goal.overflow_sub-caller
overflow_sub-caller c = omega (arith, over-place _ _ _ c.requires c.if-at-eq0.false)

pub table-stand-requires : goal.table-stand-requires
table-stand-requires c =
    record {
      ready = c.requires.ready;
      spaced = c.requires.spaced;
      standing = over-standing _ _ _ c.requires c.if-at-eq0.false;
    }

pub settle-requires : goal.settle-requires
settle-requires c = record { ready = c.requires.ready; spaced = c.requires.spaced; unsettled = c.table-stand.ensures.unsettled }

pub call-requires-2 : goal.call-requires-2
call-requires-2 c = over-asks _ _ _ c.requires c.if-at-eq0.false c.table-stand.ensures c.settle.ensures

pub returns : goal.returns
returns c =
    numbered-map _ (λ r x. over-finds _ _ _ c.requires c.if-at-eq0.false c.table-stand.ensures c.settle.ensures x) c.call-2.ensures
