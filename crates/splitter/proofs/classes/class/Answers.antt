-- `splitter::classes::class` meets its contract: the table that is lent is that of specs/Classes.
use native.Mathlib.Omega.{arith}
use Rattle.splitter.proofs.LentLaws.{classes-long, class-read}
use Rattle.splitter.proofs.classes.class.Goals as goal

pub bounds-table-from : goal.bounds-table-from
bounds-table-from c =
    let long = classes-long c.requires in
    omega (arith, long)

pub returns : goal.returns
returns c = class-read c.requires c.from.ensures c.from-2.ensures
