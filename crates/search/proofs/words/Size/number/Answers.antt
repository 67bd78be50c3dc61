-- `search::words::Size::number` meets its contract: the number is small.
use native.Mathlib.Omega.{arith}
use Rattle.search.proofs.WordLaws.{pair_small}
use Rattle.search.proofs.words.Size.number.Goals as goal

pub overflow_mul-result : goal.overflow_mul-result
overflow_mul-result c = omega (arith, pair_small c.requires)

pub overflow_add-result : goal.overflow_add-result
overflow_add-result c = omega (arith, pair_small c.requires)
