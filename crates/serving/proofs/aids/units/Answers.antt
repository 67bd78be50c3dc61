-- `serving::aids::units` meets its contract: what the note's length and the grammar's size may be keeps its product small.
use native.Mathlib.Omega.{arith}
use Rattle.serving.proofs.AidLaws.{units_small}
use Rattle.serving.proofs.aids.units.Goals as goal

pub overflow_mul-result : goal.overflow_mul-result
overflow_mul-result c = omega (arith, units_small c.args.places c.args.n c.requires.0 c.requires.1)

pub overflow_add-result-3 : goal.overflow_add-result-3
overflow_add-result-3 c = omega (arith, units_small c.args.places c.args.n c.requires.0 c.requires.1)
