-- `serving::picking::serve` meets its contract: a search that begins keeps the frames, and what was worked out before is as it was.
use Rattle.machine.proofs.LowestLaws.{numbered-map}
use Rattle.serving.proofs.PickStarts.{serve-begins, begun-serve, begun-served, begun-waiting, begun-cells}
use Rattle.serving.proofs.picking.serve.Goals as goal

pub begin-requires : goal.begin-requires
begin-requires c = serve-begins _ _ c.requires

pub by_search-requires : goal.by_search-requires
by_search-requires c = record { serve = begun-serve _ _ c.requires c.begin.ensures; budget = c.if-tally-gt1.true }

pub returns-then-tally-gt1 : goal.returns-then-tally-gt1
returns-then-tally-gt1 c = numbered-map _ (λ r x. begun-served _ _ c.requires c.begin.ensures x) c.by_search.ensures

pub by_cells-requires : goal.by_cells-requires
by_cells-requires c = begun-waiting _ _ c.requires c.begin.ensures c.if-tally-gt1.false

pub returns : goal.returns
returns c =
    numbered-map _ (λ r x. begun-cells _ _ c.requires c.begin.ensures c.if-tally-gt1.false c.by_cells.ensures.1 x) c.by_cells.ensures.0
