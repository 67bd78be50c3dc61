-- `words::slots::decision` meets its contract: a slot begins with its decision.
use Rattle.words.proofs.SlotLaws.{slot-few}
use Rattle.words.proofs.WordLaws.{slot-within}
use lib.ListN.{length}
use native.Mathlib.Omega.{arith}
use Rattle.words.specs.Words.{decision}
use Rattle.words.proofs.slots.decision.Goals as goal

pub slot_at-requires : goal.slot_at-requires
slot_at-requires c = slot-few (length c.args.cache.now) _ c.requires

pub offset_bounds-cache-slot_at : goal.offset_bounds-cache-slot_at
offset_bounds-cache-slot_at c = omega (arith, slot-within (length c.args.cache.now) c.args.s c.requires)

pub bounds-cache-slot_at : goal.bounds-cache-slot_at
bounds-cache-slot_at c = omega (arith, slot-within (length c.args.cache.now) c.args.s c.requires)

pub returns : goal.returns
unfolding decision
returns c = cc
