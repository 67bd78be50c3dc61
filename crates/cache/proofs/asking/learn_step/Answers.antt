-- `cache::asking::learn_step` meets its contract: what lookahead tells of the step, with the words of a state, is what is recorded.
use Rattle.cache.proofs.AskSteps.{told-room, step-learned}
use Rattle.words.proofs.SlotLaws.{slot-few}
use Rattle.words.proofs.WordLaws.{slot-within}
use lib.ListN.{length}
use native.Mathlib.Omega.{arith}
use Rattle.cache.proofs.asking.learn_step.Goals as goal

pub step_at-requires : goal.step_at-requires
step_at-requires c = (slot-few (length c.args.cache.now) _ c.requires.0.slot, c.requires.0.kind)

pub record_outcome-requires : goal.record_outcome-requires
record_outcome-requires c =
    let call = c.requires.0 in
    let inside = slot-within (length c.args.cache.now) c.args.s call.slot in
    let told = told-room _ _ _ c.step_outcome-outcome.ensures in
    let here = c.step_at.ensures in
    (record { long = omega (arith, inside); within = omega (arith, inside, call.kind, here); decision = c.requires.1.decision }, told)

pub returns : goal.returns
returns c =
    step-learned _ _ _ _ _ _ _ c.step_at.ensures c.requires.1.none c.step_outcome-outcome.ensures
    c.record_outcome.ensures
