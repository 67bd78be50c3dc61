-- `search::words::Size::set_at` meets its contract: the address is small.
use native.Mathlib.Omega.{arith}
use Rattle.search.proofs.WordLaws.{pairs-few, pair_small}
use Rattle.search.proofs.words.Size.set_at.Goals as goal

pub overflow_mul-result : goal.overflow_mul-result
overflow_mul-result c = omega (arith, pairs-few c.requires.small)

pub overflow_mul-result-2 : goal.overflow_mul-result-2
overflow_mul-result-2 c = omega (arith, c.number.ensures, pair_small c.requires)

pub overflow_add-result-3 : goal.overflow_add-result-3
overflow_add-result-3 c = omega (arith, c.number.ensures, pairs-few c.requires.small, pair_small c.requires)
