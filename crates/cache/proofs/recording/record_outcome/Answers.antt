-- `cache::recording::record_outcome` meets its contract: each of the three outcomes is recorded as the definition says.
use Rattle.cache.proofs.AskSteps.{room-state, room-part, record-full, record-alternative, record_is}
use native.Mathlib.Omega.{arith}
use Rattle.cache.proofs.recording.record_outcome.Goals as goal

pub overflow_mul-kept : goal.overflow_mul-kept
overflow_mul-kept c = omega (arith, (room-state _ c.args.members.now c.in-State.is c.requires.1).1)

pub overflow_add-kept : goal.overflow_add-kept
overflow_add-kept c = omega (arith, (room-state _ c.args.members.now c.in-State.is c.requires.1).1)

pub overflow_mul-kept-in-State : goal.overflow_mul-kept-in-State
overflow_mul-kept-in-State c = omega (arith, (room-state _ c.args.members.now c.in-State.is c.requires.1).1)

pub offset_bounds-members-first : goal.offset_bounds-members-first
offset_bounds-members-first c = omega (arith, (room-state _ c.args.members.now c.in-State.is c.requires.1).1)

pub slice_bounds-kept-end : goal.slice_bounds-kept-end
slice_bounds-kept-end c = omega (arith, (room-state _ c.args.members.now c.in-State.is c.requires.1).1)

pub record_state-requires : goal.record_state-requires
record_state-requires c = (c.requires.0, room-part _ c.args.members.now c.in-State.is c.requires.1)

pub returns-in-Full : goal.returns-in-Full
returns-in-Full c = record-full _ _ _ _ _ c.in-Full.is c.say.ensures

pub returns-in-Alternative : goal.returns-in-Alternative
returns-in-Alternative c = record-alternative _ _ _ _ _ c.in-Alternative.is c.say-in-Alternative.ensures

pub returns-in-State : goal.returns-in-State
returns-in-State c = record_is _ _ _ _ _ c.in-State.is c.record_state.ensures
