-- `search::words::Size::tag_at` meets its contract: the address is small.
use native.Mathlib.Omega.{arith}
use Rattle.search.proofs.WordLaws.{pair_small}
use Rattle.search.proofs.words.Size.tag_at.Goals as goal

pub overflow_add-result-2 : goal.overflow_add-result-2
overflow_add-result-2 c = omega (arith, c.number.ensures, pair_small c.requires, c.requires.small.tokens)
