-- `learning_c::step` meets its contract: a token or a slot that there is not is answered by 0, and every other step is asked of the cache.
use native.Mathlib.Omega.{arith}
use Rattle.grammar.specs.inside.Tables.{grammar_in}
use Rattle.learning_c.proofs.QuestionLaws.{decision-fits, step-high, step-known, step-unknown}
use Rattle.learning_c.proofs.step.Goals as goal

pub returns-then-t-gt-MAX_KINDS : goal.returns-then-t-gt-MAX_KINDS
returns-then-t-gt-MAX_KINDS c = step-high (grammar_in c.args.tables.now) _ _ _ (omega arith)

pub ask_step-requires : goal.ask_step-requires
ask_step-requires c =
    let words = c.slice_known-1.given in
    let slot = c.slots.ensures in
    (record { ready = c.requires; slot = omega (arith, slot); kind = omega arith }, decision-fits _ _ (λ k. (words k).fits) c.decision-a.ensures)

pub returns-then-s-slots : goal.returns-then-s-slots
returns-then-s-slots c = step-known _ _ _ _ (omega arith) (omega (arith, c.slots.ensures)) c.decision-a.ensures c.ask_step.ensures

pub returns : goal.returns
returns c = step-unknown (grammar_in c.args.tables.now) _ _ _ (omega arith) (omega (arith, c.slots.ensures))
