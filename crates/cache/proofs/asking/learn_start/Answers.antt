-- `cache::asking::learn_start` meets its contract: what lookahead tells of the start, with the words of a state, is what is recorded.
use Rattle.cache.proofs.AskSteps.{told-room, start-learned}
use native.Mathlib.Omega.{arith}
use Rattle.cache.proofs.asking.learn_start.Goals as goal

pub record_outcome-requires : goal.record_outcome-requires
record_outcome-requires c =
    let call = c.requires.0 in
    let few = call.ready.fits.few in
    let told = told-room _ _ _ c.start-outcome.ensures in
    (record { long = call.long; within = omega (arith, call.long, call.names, few); decision = omega (arith, call.names, few) }, told)

pub returns : goal.returns
returns c = start-learned _ _ _ _ _ c.requires.1 c.start-outcome.ensures c.record_outcome.ensures
