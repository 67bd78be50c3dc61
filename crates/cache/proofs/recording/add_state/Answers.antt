-- `cache::recording::add_state` meets its contract: the stores are those of the definition, in its order.
use Rattle.cache.proofs.StateSteps.{added_is}
use lib.ListN.{length-set}
use native.Mathlib.Omega.{arith}
use Rattle.cache.proofs.recording.add_state.Goals as goal

pub bounds-cache-at-2 : goal.bounds-cache-at-2
bounds-cache-at-2 c = simp length-set (omega arith)

pub store-requires : goal.store-requires
store-requires c = simp length-set (omega (arith, c.requires.0.within, c.requires.1.few, c.slot_at-at.ensures))

pub returns : goal.returns
returns c = added_is _ _ _ c.requires.0.is c.slot_at-at.ensures c.word.ensures c.word-2.ensures c.word-3.ensures c.store.ensures
