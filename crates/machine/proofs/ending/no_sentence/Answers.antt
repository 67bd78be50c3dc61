-- `machine::ending::no_sentence` meets its contract: the row is cleared whole, and the place is where the note goes wrong.
use Rattle.machine.proofs.EndingLaws.{end-clear}
use Rattle.machine.proofs.ending.no_sentence.Goals as goal

pub returns : goal.returns
returns c = end-clear c.args.row.now _ _ c.wrong_place-wrong.ensures c.clear_from.ensures
