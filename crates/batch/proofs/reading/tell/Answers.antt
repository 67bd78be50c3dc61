-- `batch::reading::tell` meets its contract: the three answers are stored one behind the other.
use native.Mathlib.Omega.{arith}
use lib.ListN.{length-set}
use Rattle.quick.proofs.ToldLaws.{told-count}
use Rattle.batch.proofs.TurnLaws.{three-told}
use Rattle.batch.proofs.reading.tell.Goals as goal

pub bounds-answers-i-2 : goal.bounds-answers-i-2
bounds-answers-i-2 c = simp length-set (omega arith)

pub bounds-answers-i-3 : goal.bounds-answers-i-3
bounds-answers-i-3 c = simp length-set (omega arith)

pub returns : goal.returns
returns c =
    three-told c.args.reading c.args.answers.now c.args.i c.number.ensures c.place.ensures
    (told-count c.args.reading c.unwrap_or.ensures)
