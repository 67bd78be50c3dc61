-- `machine::steps::space_of` meets its contract: the cells of at most 255 places at 129 positions end within a machine word.
use native.Mathlib.Omega.{arith}
use Rattle.machine.proofs.SpaceLaws.{cells-small, spaced-is}
use Rattle.machine.proofs.steps.space_of.Goals as goal

pub overflow_mul-result : goal.overflow_mul-result
overflow_mul-result c = omega (arith, cells-small _ c.args.note.now c.requires.0 c.size-places.ensures c.requires.1)

pub overflow_mul-result-2 : goal.overflow_mul-result-2
overflow_mul-result-2 c = omega (arith, cells-small _ c.args.note.now c.requires.0 c.size-places.ensures c.requires.1)

pub returns : goal.returns
returns c = spaced-is _ _ c.size-places.ensures
