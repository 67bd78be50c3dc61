-- `cache::prediction::predict` meets its contract: where all is recorded the word that it leads to says what is predicted, and else `learn` tells.
use Rattle.cache.proofs.FollowSteps.{predictable-follows, predict-recorded}
use Rattle.cache.proofs.prediction.predict.Goals as goal

pub recorded-said-requires : goal.recorded-said-requires
recorded-said-requires c = predictable-follows _ _ _ c.requires

pub forecast_of-requires : goal.forecast_of-requires
forecast_of-requires c = (c.requires.ready, c.requires.names, c.recorded-said.ensures.low)

pub returns : goal.returns
returns c = predict-recorded _ _ _ c.requires c.recorded-said.ensures c.if-said-eq0.false c.forecast_of.ensures
