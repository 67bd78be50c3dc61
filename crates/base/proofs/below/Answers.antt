-- `base::below` meets its contract: a one shifted by n is 2 ^ n, and a word has room for one less as long as n is no more than its bits.
use Prim.Native.Nat.{◌^◌, ◌≤◌}
use native.Mathlib.Omega.{arith}
use lib.Pow.{pow_pos, pow_mono}
use Rattle.base.specs.Bits.{word_bits}
use Rattle.base.proofs.Bits.{shl_one}
use Rattle.base.proofs.below.Goals as goal

pub overflow_sub-n : goal.overflow_sub-n
overflow_sub-n c = rw (shl_one 64 c.args.n (omega arith)) (pow_pos c.args.n)

pub word-requires : goal.word-requires
word-requires c =
    let most : 2 ^ c.args.n ≤ 2 ^ word_bits = pow_mono c.requires in
    rw (shl_one 64 c.args.n (omega arith)) (omega (arith, pow_pos c.args.n))

pub returns : goal.returns
returns c = rw (← shl_one 64 c.args.n (omega arith)) c.word.ensures
