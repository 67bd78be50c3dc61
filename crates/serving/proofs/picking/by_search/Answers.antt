-- `serving::picking::by_search` meets its contract: over the frame of the return place the search goes down the stack; where its budget is out, only the
-- return places are sure, and the cells answer.
use native.Mathlib.Omega.{arith}
use Rattle.machine.proofs.LowestLaws.{numbered-map}
use Rattle.serving.proofs.PickLaws.{serve-room, serve-place, search-chooses, gone-less, search-served, out-waiting, out-served}
use Rattle.serving.proofs.picking.by_search.Goals as goal

pub push-stand-requires : goal.push-stand-requires
push-stand-requires c = (serve-room _ _ c.requires.serve, serve-place _ _ c.requires.serve)

pub overflow_add-frames : goal.overflow_add-frames
overflow_add-frames c = omega (arith, serve-room _ _ c.requires.serve)

pub lowest-found-requires : goal.lowest-found-requires
lowest-found-requires c =
    search-chooses _ _ c.requires.serve c.requires.budget c.push-stand.ensures.0 c.push-stand.ensures.1
    c.size_of-size.ensures (omega arith)

pub keep-requires : goal.keep-requires
keep-requires c = (
  c.requires.serve.told.tallied.long,
  omega (
    arith,
    gone-less _ _ c.requires.serve c.requires.budget c.push-stand.ensures.0 c.push-stand.ensures.1
        (omega arith) c.lowest-found.ensures c.meter.ensures.0,
  ),
  c.requires.serve.told.lent.short,
)

pub by_cells-requires : goal.by_cells-requires
by_cells-requires c =
    out-waiting _ _ c.requires.serve c.requires.budget c.push-stand.ensures.0 c.push-stand.ensures.1 (omega arith)
    c.lowest-found.ensures

pub returns-then-found-eq0 : goal.returns-then-found-eq0
returns-then-found-eq0 c =
    numbered-map _ (λ r x. out-served _ _ c.requires.serve c.requires.budget c.push-stand.ensures.0 c.push-stand.ensures.1 (omega arith)
    c.lowest-found.ensures c.if-found-eq0.true c.keep.ensures c.by_cells.ensures.1 x) c.by_cells.ensures.0

pub returns : goal.returns
returns c =
    search-served _ _ c.requires.serve c.requires.budget c.push-stand.ensures.0 c.push-stand.ensures.1 (omega arith)
    c.lowest-found.ensures c.if-found-eq0.false c.keep.ensures c.meter.ensures.0 c.meter.ensures.1
