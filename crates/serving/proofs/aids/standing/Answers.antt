-- `serving::aids::standing` meets its contract: only where the budget is out do sets stand.
use native.Mathlib.Omega.{arith}
use Rattle.serving.proofs.AidLaws.{sets-stand, sets-none}
use Rattle.serving.proofs.aids.standing.Goals as goal

pub returns-then-tally-eq1 : goal.returns-then-tally-eq1
returns-then-tally-eq1 c = sets-stand _ _ (omega arith)

pub returns-else-tally-eq1 : goal.returns-else-tally-eq1
returns-else-tally-eq1 c = sets-none _ _ (λ e. omega arith)
