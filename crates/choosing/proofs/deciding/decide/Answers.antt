-- `choosing::deciding::decide` meets its contract: a single production, the predicted alternative and the lowest that serves are the three ways of the
-- definition's chooser.
use native.Mathlib.Omega.{arith}
use Rattle.machine.proofs.LowestLaws.{numbered-map}
use Rattle.machine.proofs.WaitLaws.{waits-small}
use Rattle.serving.proofs.PickLaws.{serve-room}
use Rattle.choosing.proofs.DecideStage.{serve-named}
use Rattle.choosing.proofs.DecideLaws.{decide-single, decide-named, decide-full, deciding-predicts}
use Rattle.choosing.proofs.deciding.decide.Goals as goal

pub alternatives-requires : goal.alternatives-requires
alternatives-requires c = (c.requires.serve.told.ready, serve-named _ _ _ _ _ c.requires.serve)

pub push-stand-requires : goal.push-stand-requires
push-stand-requires c = (
  serve-room _ _ c.requires.serve,
  omega (arith, waits-small _ c.requires.serve.told.ready _ c.requires.serve.waits),
)

pub returns-then-alternatives-lt2 : goal.returns-then-alternatives-lt2
returns-then-alternatives-lt2 c = (
  λ z. omega arith,
  decide-single _ _ _ _ _ c.requires.serve c.push-stand.ensures.0 c.push-stand.ensures.1 _
      c.alternatives.ensures c.if-alternatives-lt2.true,
)

pub predict-requires : goal.predict-requires
predict-requires c = deciding-predicts _ _ _ _ _ _ c.requires

pub push-stand-requires-in-Some : goal.push-stand-requires-in-Some
push-stand-requires-in-Some c = (
  serve-room _ _ c.requires.serve,
  omega (arith, waits-small _ c.requires.serve.told.ready _ c.requires.serve.waits),
)

pub serve-requires : goal.serve-requires
serve-requires c = c.requires.serve

pub returns-in-Some : goal.returns-in-Some
returns-in-Some c =
    decide-named _ _ _ _ _ c.requires.serve c.push-stand-in-Some.ensures.0 c.push-stand-in-Some.ensures.1 _
    c.alternatives.ensures (omega arith) c.predict.ensures c.in-Some.is

pub returns-in-None : goal.returns-in-None
returns-in-None c =
    numbered-map _ (λ r x. decide-full _ _ _ _ _ c.requires.serve _ c.alternatives.ensures (omega arith) c.predict.ensures c.in-None.is x)
    c.serve.ensures
