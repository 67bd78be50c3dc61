-- The goals of `cache::prediction::learn` that are not found.
use mathlib.Core.Path.{refl, ◌∙◌}
use native.Mathlib.Omega.{arith}
use Rattle.cache.proofs.PredictSteps.{asking-on, asking-out, asking-done, predict-starts, start-slots, step-slots}
use Rattle.cache.proofs.PredictSteps.{kinds-small, token-small}
use Rattle.cache.proofs.prediction.learn.Goals as goal

pub ask_start-said-requires : goal.ask_start-said-requires
ask_start-said-requires c = let call = c.requires in record { ready = call.ready; names = call.names; long = call.long }

pub loop-s-init : goal.loop-s-init
loop-s-init c =
    let inside = c.requires.within in
    (record { is = refl }, omega arith, start-slots _ _ _ c.ask_start-said.ensures c.slots-slots.ensures, refl)

pub returns-then-slots-s : goal.returns-then-slots-s
returns-then-slots-s c =
    asking-out _ _ _ c.loop-s.invariant.0 c.in-Some.ensures c.loop-s.invariant.2 c.then-slots-s.either
    ∙ predict-starts _ _ _ _ c.ask_start-said.ensures

pub ask_step-said-requires : goal.ask_step-said-requires
ask_step-said-requires c =
    let call = c.requires in
    let note = c.args.note.now in
    let small = token-small note (kinds-small _ call.ready note call.known) c.loop-s.j c.token_at-t.ensures in
    (record { ready = call.ready; slot = omega arith; kind = small }, omega arith)

pub loop-s-preserved : goal.loop-s-preserved
loop-s-preserved c =
    let asked = c.ask_step-said.ensures in
    let token = c.token_at-t.ensures in
    let state = c.in-Some.ensures in
    let held = c.loop-s.invariant in
    (asking-on _ _ _ held.0 state held.2 (omega arith) token asked, omega arith, step-slots _ _ _ _ _ asked held.2, omega arith)

pub forecast_of-requires : goal.forecast_of-requires
forecast_of-requires c = (c.requires.ready, c.requires.names, omega arith)

pub returns : goal.returns
returns c =
    c.forecast_of.ensures.is _ ∙ asking-done _ _ _ c.loop-s.invariant.0 c.in_default.ensures ∙ predict-starts _ _ _ _ c.ask_start-said.ensures
