-- `serving::sets::settle` meets its contract: on the way down every position comes into a set at which it can be asked, on the way up only those stay
-- from which the rest can be derived.
use native.Mathlib.Omega.{arith}
use Rattle.cells.proofs.Spots.{spot_in}
use Rattle.machine.proofs.CallLaws.{lent_of}
use Rattle.serving.proofs.RestLaws.{only-framed}
use Rattle.serving.proofs.SettleLaws.{framed_of, settle-leaves}
use Rattle.serving.proofs.sets.settle.Goals as goal

pub cell-asked-requires : goal.cell-asked-requires
cell-asked-requires c =
    spot_in _ _ _ _ _ (lent_of c.requires.spaced.places c.requires.unsettled.framed.lent)
    (omega (arith, c.requires.spaced.places, c.requires.unsettled.place))
    c.requires.unsettled.position

pub ask_down-requires : goal.ask_down-requires
ask_down-requires c = framed_of c.requires.spaced c.requires.unsettled.framed

pub serve_up-requires : goal.serve_up-requires
serve_up-requires c = only-framed c.ask_down.ensures.kept (framed_of c.requires.spaced c.requires.unsettled.framed)

pub returns : goal.returns
returns c =
    settle-leaves _ c.requires.ready _ _ (λ k. (c.slice_known-1.given k).fits) _ _ _ _ c.requires.unsettled c.requires.spaced
    c.cell-asked.ensures c.ask_down.ensures c.serve_up.ensures
