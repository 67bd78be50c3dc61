-- `base::highest` meets its contract: the highest member stands as far below the top of the word as there are leading zeros.
use native.Mathlib.Omega.{arith}
use Rattle.base.proofs.Bits.{leading-highest, leading-few}
use Rattle.base.proofs.highest.Goals as goal

pub overflow_sub-result-2 : goal.overflow_sub-result-2
overflow_sub-result-2 c = omega (arith, leading-few c.args.x c.requires (omega arith), c.number.ensures)

pub returns : goal.returns
returns c =
    leading-highest _ _ c.requires (omega arith)
    (omega (arith, leading-few c.args.x c.requires (omega arith), c.number.ensures))
