-- `corners::moves::widened` meets its contract: where nothing that stands first vanishes, the row of what stands first says where one move leads.
use Rattle.corners.proofs.FirstLaws.{widen-same}
use Rattle.corners.proofs.moves.widened.Goals as goal

pub returns-then-row-nullable-eq0 : goal.returns-then-row-nullable-eq0
returns-then-row-nullable-eq0 c = widen-same _ _ _ _ c.requires.2 c.if-row-nullable-eq0.true

pub returns : goal.returns
returns c = c.moves.ensures
