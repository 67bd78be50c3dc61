-- `quick::reading::read` meets its contract: the machine stops as the definition's reading ends, and the answer follows from that. It begins with masks
-- of zeros, and with no search begun.
use Rattle.quick.proofs.RunLaws.{unbegun}
use Rattle.quick.proofs.ReadingLaws.{stopped, read_is}
use Rattle.quick.proofs.reading.read.Goals as goal

pub run-stop-requires : goal.run-stop-requires
run-stop-requires c = (c.requires.0, c.requires.1, unbegun c.allow.ensures)

pub finish-requires : goal.finish-requires
finish-requires c = stopped _ _ _ _ _ c.requires.0 c.run-stop.ensures

pub returns : goal.returns
returns c = read_is _ _ _ _ _ c.run-stop.ensures c.finish.ensures
