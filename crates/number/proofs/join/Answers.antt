-- `number::join` meets its contract: the low group and the shifted one share no bit, so their union is their sum.
use Rattle.number.proofs.NumberLaws.{joined}
use Rattle.number.proofs.join.Goals as goal

pub returns : goal.returns
returns c = joined c.args.low c.args.high c.requires
