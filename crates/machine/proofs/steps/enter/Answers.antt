-- `machine::steps::enter` meets its contract: from the first place of the alternative it advances, over one frame more.
use Rattle.machine.proofs.AdvanceLaws.{entered-is}
use Rattle.machine.proofs.steps.enter.Goals as goal

pub returns : goal.returns
returns c =
    entered-is c.args.tables.now c.args.note.now c.args.ws.now c.args.base c.args.a
    c.args.b c.args.at c.first.ensures c.advance.ensures
