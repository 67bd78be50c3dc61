-- `plain::reading::finish` meets its contract: an accepted note needs no cells, nor does a sentence for which the row was full; for any other note they are
-- right before it is asked why.
use Rattle.base.proofs.Booleans.{clash}
use Rattle.machine.proofs.EndingLaws.{end-accepted, by-outcome}
use Rattle.plain.proofs.ReadingLaws.{stopped-cells, stopped-short, stopped-given}
use Rattle.plain.proofs.reading.finish.Goals as goal

pub clear_from-requires : goal.clear_from-requires
clear_from-requires c = c.requires.within _ c.in-Accepted.is

pub returns-then-sentence : goal.returns-then-sentence
returns-then-sentence c =
    by-outcome _ _ _ c.in-Full.is
    (stopped-short _ _ _ _ _ c.requires c.if-sentence.true c.clear_from-then-sentence.ensures)

pub fill_cells-requires : goal.fill_cells-requires
fill_cells-requires c = stopped-cells _ _ _ _ _ c.requires c.standing-stand.ensures

pub finish-requires : goal.finish-requires
finish-requires c = (stopped-given _ _ _ _ _ c.requires c.fill_cells.ensures, λ k z. clash (cc))

pub fill_cells-requires-in-Stuck : goal.fill_cells-requires-in-Stuck
fill_cells-requires-in-Stuck c = stopped-cells _ _ _ _ _ c.requires c.standing-stand.ensures

pub finish-requires-in-Stuck : goal.finish-requires-in-Stuck
finish-requires-in-Stuck c = (stopped-given _ _ _ _ _ c.requires c.fill_cells-in-Stuck.ensures, λ k z. clash (cc))

pub returns-in-Accepted : goal.returns-in-Accepted
returns-in-Accepted c =
    by-outcome _ _ _ c.in-Accepted.is
    (end-accepted _ _ _ _ (c.requires.within _ c.in-Accepted.is) c.clear_from.ensures)

pub returns-else-sentence : goal.returns-else-sentence
returns-else-sentence c = by-outcome _ _ _ c.in-Full.is c.finish.ensures

pub returns-in-Stuck : goal.returns-in-Stuck
returns-in-Stuck c = by-outcome _ _ _ c.in-Stuck.is c.finish-in-Stuck.ensures
