-- `machine::ending::finish` meets its contract: each way in which the machine stops has its answer, and where the row was full the sentence test decides.
use Rattle.machine.proofs.EndingLaws.{end-accepted, end-stuck, end_short, end-wrong, by-outcome}
use Rattle.machine.proofs.ending.finish.Goals as goal

pub clear_from-requires : goal.clear_from-requires
clear_from-requires c = c.requires.1 _ c.in-Accepted.is

pub returns-then-is_sentence : goal.returns-then-is_sentence
returns-then-is_sentence c =
    by-outcome _ _ _ c.in-Full.is
    (end_short _ _ _ c.is_sentence.ensures c.if-is_sentence.true c.clear_from-then-is_sentence.ensures)

pub returns-in-Accepted : goal.returns-in-Accepted
returns-in-Accepted c =
    by-outcome _ _ _ c.in-Accepted.is
    (end-accepted _ _ _ _ (c.requires.1 _ c.in-Accepted.is) c.clear_from.ensures)

pub returns-in-Stuck : goal.returns-in-Stuck
returns-in-Stuck c = by-outcome _ _ _ c.in-Stuck.is (end-stuck _ _ _ c.no_sentence.ensures)

pub returns-else-is_sentence : goal.returns-else-is_sentence
returns-else-is_sentence c =
    by-outcome _ _ _ c.in-Full.is
    (end-wrong _ _ _ c.is_sentence.ensures c.if-is_sentence.false c.no_sentence-in-Full.ensures)
