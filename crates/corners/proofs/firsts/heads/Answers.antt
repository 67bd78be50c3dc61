-- The goals of `corners::firsts::heads` that are not found.
use native.Mathlib.Omega.{arith}
use Rattle.corners.proofs.FirstLaws.{zeros-long, found}
use Rattle.corners.proofs.firsts.heads.Goals as goal

pub nullable-requires : goal.nullable-requires
nullable-requires c = (c.requires.0, omega (arith, zeros-long c.requires.1), c.all_firsts-firsts.ensures)

pub returns : goal.returns
returns c = found _ _ _ _ c.all_firsts-firsts.ensures c.nullable.ensures
