-- `auditing::records::says` meets its contract: each of the three outcomes is said by its own words.
use mathlib.Core.Path.{refl}
use native.Mathlib.Omega.{arith}
use Rattle.cache.proofs.AskSteps.{room-state}
use Rattle.auditing.proofs.RecordSteps.{says-full, says-alternative, says-state}
use Rattle.auditing.proofs.records.says.Goals as goal

pub overflow_mul-kept : goal.overflow_mul-kept
overflow_mul-kept c = omega (arith, (room-state _ c.args.members.now c.in-State.is c.requires.1).1)

pub overflow_add-kept : goal.overflow_add-kept
overflow_add-kept c = omega (arith, (room-state _ c.args.members.now c.in-State.is c.requires.1).1)

pub overflow_mul-kept-in-State : goal.overflow_mul-kept-in-State
overflow_mul-kept-in-State c = omega (arith, (room-state _ c.args.members.now c.in-State.is c.requires.1).1)

pub offset_bounds-members-first : goal.offset_bounds-members-first
offset_bounds-members-first c = omega (arith, (room-state _ c.args.members.now c.in-State.is c.requires.1).1)

pub slice_bounds-kept-end : goal.slice_bounds-kept-end
slice_bounds-kept-end c = omega (arith, (room-state _ c.args.members.now c.in-State.is c.requires.1).1)

pub returns-in-Full : goal.returns-in-Full
returns-in-Full c = says-full _ _ _ _ _ c.in-Full.is refl

pub returns-in-Alternative : goal.returns-in-Alternative
returns-in-Alternative c = says-alternative _ _ _ _ _ c.in-Alternative.is refl

pub returns-in-State : goal.returns-in-State
returns-in-State c = says-state _ _ _ _ _ c.in-State.is c.names.ensures
