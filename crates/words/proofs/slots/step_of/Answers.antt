-- `words::slots::step_of` meets its contract: the step of a slot lies within its words, and the word there is what is recorded.
use Rattle.words.specs.Words.{step_of}
use Prim.Native.Nat.{ℕ}
use Rattle.words.proofs.SlotLaws.{slot-few}
use Rattle.words.proofs.WordLaws.{slot-within}
use mathlib.Core.Path.{ap}
use lib.ListN.{length, get_or}
use native.Mathlib.Omega.{arith}
use Rattle.words.proofs.slots.step_of.Goals as goal

pub step_at-requires : goal.step_at-requires
step_at-requires c = (slot-few (length c.args.cache.now) _ c.requires.0, c.requires.1)

pub offset_bounds-cache-step_at : goal.offset_bounds-cache-step_at
offset_bounds-cache-step_at c = omega (arith, slot-within (length c.args.cache.now) c.args.s c.requires.0, c.step_at.ensures)

pub bounds-cache-step_at : goal.bounds-cache-step_at
bounds-cache-step_at c = omega (arith, slot-within (length c.args.cache.now) c.args.s c.requires.0, c.step_at.ensures)

pub returns : goal.returns
unfolding step_of
returns c = ap (λ (i : ℕ). get_or c.args.cache.now i 0) c.step_at.ensures
