-- `words::slots::kept_count` meets its contract: a count is read as what the slot says, or as the most that is kept where it says more.
use Rattle.words.proofs.SlotLaws.{slot-few, count-is}
use Rattle.words.proofs.WordLaws.{slot-within}
use lib.ListN.{length}
use native.Mathlib.Omega.{arith}
use Rattle.words.proofs.slots.kept_count.Goals as goal

pub slot_at-requires : goal.slot_at-requires
slot_at-requires c = slot-few (length c.args.cache.now) _ c.requires

pub offset_bounds-cache-slot_at : goal.offset_bounds-cache-slot_at
offset_bounds-cache-slot_at c = omega (arith, slot-within (length c.args.cache.now) c.args.s c.requires)

pub bounds-cache-slot_at : goal.bounds-cache-slot_at
bounds-cache-slot_at c = omega (arith, slot-within (length c.args.cache.now) c.args.s c.requires)

pub returns : goal.returns
returns c = omega (arith, count-is c.args.cache.now c.args.s c.number.ensures c.slot_at.ensures)
