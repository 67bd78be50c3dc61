-- `quick::reading::wrong` meets its contract: the row is cleared from its first entry on.
use Rattle.quick.proofs.QuickRefuse.{wrong-clears}
use Rattle.quick.proofs.reading.wrong.Goals as goal

pub returns : goal.returns
returns c = wrong-clears c.args.row.now _ c.clear_from.ensures
