-- `search::words::Size::waits_at` meets its contract: the address is small.
use native.Mathlib.Omega.{arith}
use Rattle.search.proofs.WordLaws.{pairs-few}
use Rattle.search.proofs.words.Size.waits_at.Goals as goal

pub overflow_mul-result-2 : goal.overflow_mul-result-2
overflow_mul-result-2 c = omega (arith, pairs-few c.requires)
