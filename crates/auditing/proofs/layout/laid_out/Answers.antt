-- `auditing::layout::laid_out` meets its contract: the number of states, the words before the slots, those behind the last held one, and then slot by slot.
use mathlib.Core.Bool.{not}
use mathlib.Core.Path.{refl, ap}
use Rattle.std.proofs.Common.{rules}
use Rattle.std.proofs.Math.Seq.{take-length}
use native.Mathlib.Omega.{arith}
use Rattle.auditing.proofs.LayoutSteps.{rest-length, rest-zeros, slots-end, slots-few, states-many, fixed-used, rest-used, slots-decide}
use Rattle.auditing.proofs.layout.laid_out.Goals as goal

pub returns-then-slots-held : goal.returns-then-slots-held
returns-then-slots-held c = states-many _ _ _ c.held-held.ensures c.slots.ensures (omega arith)

pub returns-then-not-fixed : goal.returns-then-not-fixed
returns-then-not-fixed c = fixed-used _ _ _ c.held-held.ensures c.slots.ensures (omega arith) c.fixed.ensures (ap not c.if-not-fixed.true)

pub slot_at-requires : goal.slot_at-requires
slot_at-requires c = slots-few _ c.slots.ensures (omega arith)

pub offset_bounds-cache-slot_at : goal.offset_bounds-cache-slot_at
offset_bounds-cache-slot_at c = omega (arith, slots-end _ c.slots.ensures (omega arith) c.slot_at.ensures (omega arith))

pub slice_bounds-zeros-count : goal.slice_bounds-zeros-count
slice_bounds-zeros-count c = omega (arith, slots-end _ c.slots.ensures (omega arith) c.slot_at.ensures (omega arith))

pub slice_bounds-zeros-start : goal.slice_bounds-zeros-start
slice_bounds-zeros-start c = omega (arith, slots-end _ c.slots.ensures (omega arith) c.slot_at.ensures (omega arith))

pub returns-then-not-zeros : goal.returns-then-not-zeros
returns-then-not-zeros c =
    rest-used _ _ _ c.held-held.ensures c.slots.ensures (omega arith) c.fixed.ensures (ap not c.if-not-fixed.false)
    c.slot_at.ensures refl
    (rest-zeros c.args.cache.now c.slot_at.result (slots-end _ c.slots.ensures (omega arith) c.slot_at.ensures (omega arith)) {r = c.zeros.result}
    (search (rules, rest-length, take-length)))
    (ap not c.if-not-zeros.true)

pub returns : goal.returns
returns c =
    slots-decide _ _ _ c.held-held.ensures c.slots.ensures (omega arith) c.fixed.ensures (ap not c.if-not-fixed.false)
    c.slot_at.ensures refl
    (rest-zeros c.args.cache.now c.slot_at.result (slots-end _ c.slots.ensures (omega arith) c.slot_at.ensures (omega arith)) {r = c.zeros.result}
    (search (rules, rest-length, take-length)))
    (ap not c.if-not-zeros.false) c.all_slots.ensures
