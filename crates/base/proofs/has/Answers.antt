-- `base::has` meets its contract: a word shifted by k is divided by 2 ^ k, and its lowest bit is the remainder by 2, which is how `test_bit` reads bit k.
use lib.Bits.{and_mask}
use Rattle.base.specs.Bits.{test_bit, bit}
use Rattle.base.proofs.has.Goals as goal

pub returns : goal.returns
unfolding test_bit bit
returns c = rw (and_mask _ 1)
