-- `base::with` meets its contract: a one shifted by k < word_bits loses no bit, so it is the 2 ^ k that `set_bit` joins.
use Rattle.base.specs.Bits.{word_bits, set_bit}
use Rattle.base.proofs.Bits.{shl_one}
use Rattle.base.proofs.with.Goals as goal

pub returns : goal.returns
unfolding set_bit
returns c = rw (shl_one word_bits c.args.k c.requires)
