-- `cache::prediction::forecast_of` meets its contract: 0 and what is above the last alternative say FULL, and each number between them its alternative.
use native.Mathlib.Omega.{arith}
use Rattle.cache.proofs.FollowSteps.{says_none, says-one}
use Rattle.cache.proofs.prediction.forecast_of.Goals as goal

pub returns-then-b-eq0 : goal.returns-then-b-eq0
returns-then-b-eq0 c = says_none _ _ c.number-b.ensures c.requires.2 (λ m. omega (arith, m))

pub returns-then-alternatives-b : goal.returns-then-alternatives-b
returns-then-alternatives-b c = says_none _ _ c.number-b.ensures c.requires.2 (λ _. omega (arith, c.alternatives.ensures))

pub returns : goal.returns
returns c = says-one _ _ c.number-b.ensures c.requires.2 (omega arith) (omega (arith, c.alternatives.ensures))
