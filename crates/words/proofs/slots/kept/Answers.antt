-- `words::slots::kept` meets its contract: the words of a slot from its configurations on, as many as its count says.
use Rattle.words.proofs.SlotLaws.{slot-few, kept-within, kept-are}
use lib.ListN.{length}
use native.Mathlib.Omega.{arith}
use Rattle.words.proofs.slots.kept.Goals as goal

pub slot_at-from-requires : goal.slot_at-from-requires
slot_at-from-requires c = slot-few (length c.args.cache.now) _ c.requires

pub overflow_add-from : goal.overflow_add-from
overflow_add-from c = omega (arith, kept-within c.args.cache.now _ c.requires)

pub overflow_mul-result : goal.overflow_mul-result
overflow_mul-result c = omega (arith, kept-within c.args.cache.now _ c.requires)

pub overflow_add-result : goal.overflow_add-result
overflow_add-result c = omega (arith, kept-within c.args.cache.now _ c.requires)

pub offset_bounds-cache-from : goal.offset_bounds-cache-from
offset_bounds-cache-from c = omega (arith, kept-within c.args.cache.now _ c.requires)

pub slice_bounds-result-end : goal.slice_bounds-result-end
slice_bounds-result-end c = omega (arith, kept-within c.args.cache.now _ c.requires)

pub returns : goal.returns
returns c = kept-are c.args.cache.now _ c.slot_at-from.ensures c.kept_count.ensures
