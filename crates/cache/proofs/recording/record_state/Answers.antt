-- `cache::recording::record_state` meets its contract: a state that a slot holds is named by that slot, and every other is a new one.
use Rattle.cache.proofs.StateSteps.{state-found, state-new, found-low}
use Rattle.cache.proofs.recording.record_state.Goals as goal

pub state_word-requires : goal.state_word-requires
state_word-requires c = found-low c.args.i _ _ _ c.find.ensures c.in-Some.is

pub returns-in-Some : goal.returns-in-Some
returns-in-Some c = state-found _ _ _ _ c.find.ensures c.in-Some.is c.state_word.ensures c.say.ensures

pub returns-in-None : goal.returns-in-None
returns-in-None c = state-new _ _ _ _ c.find.ensures c.in-None.is c.new_state.ensures
