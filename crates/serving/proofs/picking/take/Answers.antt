-- `serving::picking::take` meets its contract: what is told at once is the lowest alternative that serves, as some one does; else it is searched, or the cells
-- answer.
use native.Mathlib.Omega.{arith}
use Rattle.machine.proofs.LowestLaws.{numbered-map}
use Rattle.serving.proofs.PickLaws.{serve-asks, serve-room, serve-place}
use Rattle.serving.proofs.PickStarts.{take-waiting, take_cells, spent-waiting, spent-served, taking, taking-search, search-taken, told-taken}
use Rattle.serving.proofs.picking.take.Goals as goal

pub by_cells-requires : goal.by_cells-requires
by_cells-requires c = take-waiting _ _ c.requires c.if-tally-lt2.true

pub returns-then-tally-lt2 : goal.returns-then-tally-lt2
returns-then-tally-lt2 c = numbered-map _ (λ r x. take_cells _ _ c.requires c.if-tally-lt2.true c.by_cells.ensures.1 x) c.by_cells.ensures.0

pub direct-direct-requires : goal.direct-direct-requires
direct-direct-requires c = serve-asks _ _ c.requires.serve (omega (arith, c.if-tally-lt2.false)) c.size_of-size.ensures

pub by_cells-requires-then-direct-eq0 : goal.by_cells-requires-then-direct-eq0
by_cells-requires-then-direct-eq0 c =
    spent-waiting _ _ c.requires (omega (arith, c.if-tally-lt2.false)) c.meter-meter.ensures.0 c.direct-direct.ensures
    c.keep.ensures c.if-direct-eq0.true

pub returns-then-direct-eq0 : goal.returns-then-direct-eq0
returns-then-direct-eq0 c =
    numbered-map _ (λ r x. spent-served _ _ c.requires (omega (arith, c.if-tally-lt2.false)) c.meter-meter.ensures.0 c.direct-direct.ensures
    c.keep.ensures c.if-direct-eq0.true c.by_cells-then-direct-eq0.ensures.1 x) c.by_cells-then-direct-eq0.ensures.0

pub by_search-requires : goal.by_search-requires
by_search-requires c =
    taking-search _ _ c.requires (omega (arith, c.if-tally-lt2.false)) c.meter-meter.ensures.0 c.direct-direct.ensures
    c.keep.ensures c.if-direct-eq0.false

pub returns-in_default : goal.returns-in_default
returns-in_default c =
    numbered-map _ (λ r x. search-taken _ _ c.requires (omega (arith, c.if-tally-lt2.false)) c.meter-meter.ensures.0 c.direct-direct.ensures
    c.keep.ensures c.if-direct-eq0.false x) c.by_search.ensures

pub push-stand-requires : goal.push-stand-requires
push-stand-requires c =
    let served = taking _ _ c.requires (omega (arith, c.if-tally-lt2.false)) c.meter-meter.ensures.0 c.direct-direct.ensures
    c.keep.ensures c.if-direct-eq0.false in
    (serve-room _ _ served, serve-place _ _ served)

pub returns : goal.returns
returns c =
    told-taken _ _ c.requires (omega (arith, c.if-tally-lt2.false)) c.meter-meter.ensures.0 c.direct-direct.ensures c.keep.ensures
    c.if-direct-eq0.false c.in-Some.is c.push-stand.ensures.0 c.push-stand.ensures.1
