-- `order::turn` meets its contract: upwards the k-th is k, downwards it is as far from the last.
use native.Mathlib.Omega.{arith}
use Rattle.order.proofs.SweepLaws.{turn_up, turn-down}
use Rattle.order.proofs.turn.Goals as goal

pub returns-then-up : goal.returns-then-up
returns-then-up c = turn_up _ _ c.if-up.true

pub returns : goal.returns
returns c = turn-down _ _ c.if-up.false (omega arith)
