-- `cache::recording::new_state` meets its contract: with a slot free the state is stored and recorded, with none nothing is, and the outcome is FULL.
use Rattle.cache.proofs.StateSteps.{new-held, new-full, slot-below}
use lib.ListN.{length}
use native.Mathlib.Omega.{arith}
use Rattle.cache.proofs.recording.new_state.Goals as goal

pub add_state-requires : goal.add_state-requires
add_state-requires c =
    let (low, within) = slot-below (length c.args.cache.now) c.slots.ensures c.if-s-slots.true in
    (record { is = c.held-s.ensures; low = low; within = within; decision = c.requires.0.decision }, c.requires.1)

pub state_word-requires : goal.state_word-requires
state_word-requires c = (slot-below (length c.args.cache.now) c.slots.ensures c.if-s-slots.true).0

pub returns-then-s-slots : goal.returns-then-s-slots
returns-then-s-slots c =
    new-held _ _ _ _ c.held-s.ensures (omega (arith, c.slots.ensures)) c.add_state.ensures
    c.state_word.ensures
    c.say.ensures

pub returns : goal.returns
returns c = new-full _ _ _ _ c.held-s.ensures (omega (arith, c.slots.ensures))
