-- `auditing::layout::slot` meets its contract: each test is one of the definition's, on words that lie within the slot.
use mathlib.Core.Bool.{not}
use mathlib.Core.Path.{refl, ap}
use lib.ListN.{length}
use native.Mathlib.Omega.{arith}
use Rattle.words.proofs.SlotLaws.{slot-few}
use Rattle.words.proofs.WordLaws.{slot-within}
use Rattle.auditing.proofs.LayoutSteps.{part-zeros, ready-kinds, no-decision, nothing-kept, too_many, not-kept, steps-used, behind-decides}
use Rattle.auditing.proofs.layout.slot.Goals as goal

pub returns-then-not-decides : goal.returns-then-not-decides
returns-then-not-decides c = no-decision _ _ _ c.decision.ensures c.decides.ensures (ap not c.if-not-decides.true)

pub slot_at-at-requires : goal.slot_at-at-requires
slot_at-at-requires c = slot-few (length c.args.cache.now) _ c.requires.1

pub offset_bounds-cache-at : goal.offset_bounds-cache-at
offset_bounds-cache-at c =
    let inside = slot-within (length c.args.cache.now) c.args.s c.requires.1 in
    omega (arith, c.slot_at-at.ensures)

pub bounds-cache-at : goal.bounds-cache-at
bounds-cache-at c =
    let inside = slot-within (length c.args.cache.now) c.args.s c.requires.1 in
    omega (arith, c.slot_at-at.ensures)

pub returns-then-n-eq0 : goal.returns-then-n-eq0
returns-then-n-eq0 c =
    nothing-kept _ _ _ c.decision.ensures c.decides.ensures (ap not c.if-not-decides.false) c.slot_at-at.ensures
    refl c.number-n.ensures (omega arith)

pub returns-then-n-gt-KEPT : goal.returns-then-n-gt-KEPT
returns-then-n-gt-KEPT c =
    too_many _ _ _ c.decision.ensures c.decides.ensures (ap not c.if-not-decides.false) c.slot_at-at.ensures
    refl c.number-n.ensures (omega arith)

pub overflow_add-from : goal.overflow_add-from
overflow_add-from c =
    let inside = slot-within (length c.args.cache.now) c.args.s c.requires.1 in
    omega (arith, c.slot_at-at.ensures)

pub overflow_add-behind : goal.overflow_add-behind
overflow_add-behind c =
    let inside = slot-within (length c.args.cache.now) c.args.s c.requires.1 in
    omega (arith, c.slot_at-at.ensures)

pub offset_bounds-cache-from : goal.offset_bounds-cache-from
offset_bounds-cache-from c =
    let inside = slot-within (length c.args.cache.now) c.args.s c.requires.1 in
    omega (arith, c.slot_at-at.ensures)

pub slice_bounds-kept-end : goal.slice_bounds-kept-end
slice_bounds-kept-end c =
    let inside = slot-within (length c.args.cache.now) c.args.s c.requires.1 in
    omega (arith, c.slot_at-at.ensures)

pub returns-then-not-kept : goal.returns-then-not-kept
returns-then-not-kept c =
    not-kept _ _ _ c.decision.ensures c.decides.ensures (ap not c.if-not-decides.false) c.slot_at-at.ensures
    refl c.number-n.ensures (omega arith) (omega arith) refl refl c.kept.ensures (ap not c.if-not-kept.true)

pub step_at-steps-requires : goal.step_at-steps-requires
step_at-steps-requires c =
    let few = ready-kinds c.requires.0 in
    (slot-few (length c.args.cache.now) _ c.requires.1, omega (arith, few, c.kinds.ensures))

pub overflow_add-steps : goal.overflow_add-steps
overflow_add-steps c =
    let inside = slot-within (length c.args.cache.now) c.args.s c.requires.1 in
    let few = ready-kinds c.requires.0 in
    omega (arith, c.step_at-steps.ensures, c.kinds.ensures)

pub offset_bounds-cache-steps : goal.offset_bounds-cache-steps
offset_bounds-cache-steps c =
    let inside = slot-within (length c.args.cache.now) c.args.s c.requires.1 in
    let few = ready-kinds c.requires.0 in
    omega (arith, c.step_at-steps.ensures, c.kinds.ensures)

pub slice_bounds-zeros-count : goal.slice_bounds-zeros-count
slice_bounds-zeros-count c =
    let few = ready-kinds c.requires.0 in
    omega (arith, c.step_at-steps.ensures, c.kinds.ensures, c.slot_at-at.ensures)

pub slice_bounds-zeros-start : goal.slice_bounds-zeros-start
slice_bounds-zeros-start c =
    let few = ready-kinds c.requires.0 in
    omega (arith, c.step_at-steps.ensures, c.kinds.ensures, c.slot_at-at.ensures)

pub returns-then-not-zeros : goal.returns-then-not-zeros
returns-then-not-zeros c =
    steps-used _ _ _ c.decision.ensures c.decides.ensures (ap not c.if-not-decides.false) c.slot_at-at.ensures
    refl c.number-n.ensures (omega arith) (omega arith) refl refl c.kept.ensures (ap not c.if-not-kept.false)
    (omega (arith, c.step_at-steps.ensures, c.kinds.ensures))
    (part-zeros _ _ _ (omega (arith, ready-kinds c.requires.0, c.step_at-steps.ensures, c.kinds.ensures, c.slot_at-at.ensures))
    (omega (arith, slot-within (length c.args.cache.now) c.args.s c.requires.1, c.slot_at-at.ensures)) c.zeros.ensures) (ap not c.if-not-zeros.true)

pub overflow_add-at-2 : goal.overflow_add-at-2
overflow_add-at-2 c =
    let inside = slot-within (length c.args.cache.now) c.args.s c.requires.1 in
    omega (arith, c.slot_at-at.ensures)

pub slice_bounds-zeros-end-2 : goal.slice_bounds-zeros-end-2
slice_bounds-zeros-end-2 c =
    let inside = slot-within (length c.args.cache.now) c.args.s c.requires.1 in
    omega (arith, c.slot_at-at.ensures)

pub returns : goal.returns
returns c =
    behind-decides _ _ _ c.decision.ensures c.decides.ensures (ap not c.if-not-decides.false) c.slot_at-at.ensures
    refl c.number-n.ensures (omega arith) (omega arith) refl refl c.kept.ensures (ap not c.if-not-kept.false)
    (omega (arith, c.step_at-steps.ensures, c.kinds.ensures))
    (part-zeros _ _ _ (omega (arith, ready-kinds c.requires.0, c.step_at-steps.ensures, c.kinds.ensures, c.slot_at-at.ensures))
    (omega (arith, slot-within (length c.args.cache.now) c.args.s c.requires.1, c.slot_at-at.ensures)) c.zeros.ensures) (ap not c.if-not-zeros.false)
    refl (part-zeros _ _ _ (omega arith) (omega (arith, slot-within (length c.args.cache.now) c.args.s c.requires.1, c.slot_at-at.ensures)) c.zeros-2.ensures)
