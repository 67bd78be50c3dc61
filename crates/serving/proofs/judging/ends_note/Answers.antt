-- `serving::judging::ends_note` meets its contract: each kind of reply tells of the note's end.
use Rattle.serving.proofs.JudgeLaws.{start-set, only-ends, several-end}
use Rattle.serving.proofs.judging.ends_note.Goals as goal

pub set_of-ends-requires : goal.set_of-ends-requires
set_of-ends-requires c = start-set c.args.ws.now c.requires.0 c.requires.1 c.requires.2 c.requires.3

pub returns-in-Only : goal.returns-in-Only
returns-in-Only c = only-ends _ c.requires.1 c.in-Only.is

pub returns-in-Several : goal.returns-in-Several
returns-in-Several c = several-end _ c.requires.1 c.in-Several.is c.set_of-ends.ensures c.has.ensures
