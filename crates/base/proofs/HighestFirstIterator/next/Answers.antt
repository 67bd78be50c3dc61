-- `base::HighestFirst` meets the contract of its `next`: without its highest member a set is less as a number.
use native.Mathlib.Omega.{arith}
use Rattle.base.proofs.Bits.{without-less}
use Rattle.base.proofs.HighestFirstIterator.next.Goals as goal

pub returns-clause-goes : goal.returns-clause-goes
returns-clause-goes c =
    let less = without-less c.args.self.now.left c.highest-a.result c.highest-a.ensures.member in
    record { on = λ f. (tt, tt, omega (arith, less, c.without-self.ensures)); keeps = tt; rests = λ f. tt }
