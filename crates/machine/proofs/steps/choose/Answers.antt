-- `machine::steps::choose` meets its contract: what is found is an alternative, so its frame has room.
use Rattle.machine.proofs.AlternativeLaws.{lowest-named}
use Rattle.machine.proofs.CallLaws.{push-if}
use Rattle.machine.proofs.LowestLaws.{numbered_some}
use Rattle.machine.proofs.steps.choose.Goals as goal

pub push-requires : goal.push-requires
push-requires c =
    let (n, e) = numbered_some _ c.lowest.ensures c.in_ok-b.was in
    let h = lowest-named c.args.tables.now c.args.ws.now c.args.a c.args.at.position c.args.s.words e n in
    (c.requires.roomy c.in_ok-b.b h.0 h.1, c.requires.small)

pub returns : goal.returns
returns c =
    let (n, e) = numbered_some _ c.lowest.ensures c.in_ok-b.was in
    (n, (e, push-if _ c.args.ws.now c.args.base c.args.at.depth c.args.at.place c.args.s.words n c.push.ensures))
