-- `serving::picking::by_cells` meets its contract: all sets stand after the choice by the cells, that of the new frame too.
use native.Mathlib.Omega.{arith}
use Rattle.serving.proofs.WaitingLaws.{waiting-room}
use Rattle.serving.proofs.picking.by_cells.Goals as goal

pub overflow_add-result : goal.overflow_add-result
overflow_add-result c = omega (arith, waiting-room _ _ _ c.requires c.requires.spaced.base)
