-- `base::without` meets its contract: a one shifted by k < word_bits loses no bit, so it is the 2 ^ k that is turned.
use Rattle.base.specs.Bits.{word_bits}
use Rattle.base.proofs.Bits.{shl_one}
use Rattle.base.proofs.without.Goals as goal

pub returns : goal.returns
returns c = rw (shl_one word_bits c.args.k c.requires.0)
