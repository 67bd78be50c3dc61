-- `plain::reading::read` meets its contract: a note that is no sentence has one answer however the machine stops; for any other, and where the budget is out,
-- the machine stops as the definition's reading ends, and the answer follows from that.
use Rattle.base.proofs.Booleans.{clash}
use Rattle.plain.proofs.ReadingLaws.{judging, judged-sentence, judged-wrong, run-sentence, run_out, stopped, read_is}
use Rattle.plain.proofs.reading.read.Goals as goal

pub judge-judged-requires : goal.judge-judged-requires
judge-judged-requires c = (0, judging _ _ c.requires c.allow.ensures)

pub run-stop-requires : goal.run-stop-requires
run-stop-requires c = run-sentence _ _ c.requires c.judge-judged.ensures c.in-Sentence.is

pub finish-requires : goal.finish-requires
finish-requires c =
    stopped _ _ c.requires c.judge-judged.ensures c.run-stop.ensures
    (λ _. judged-sentence _ _ c.requires c.judge-judged.ensures c.in-Sentence.is)

pub run-stop-requires-in-Out : goal.run-stop-requires-in-Out
run-stop-requires-in-Out c = run_out _ _ c.requires c.judge-judged.ensures c.in-Out.is

pub finish-requires-in-Out : goal.finish-requires-in-Out
finish-requires-in-Out c = stopped _ _ c.requires c.judge-judged.ensures c.run-stop-in-Out.ensures (λ e. clash (cc))

pub returns-in-Wrong : goal.returns-in-Wrong
returns-in-Wrong c = judged-wrong _ _ c.requires c.judge-judged.ensures c.in-Wrong.is _ c.clear_from.ensures

pub returns-in-Sentence : goal.returns-in-Sentence
returns-in-Sentence c = read_is _ _ _ _ c.run-stop.ensures c.finish.ensures

pub returns-in-Out : goal.returns-in-Out
returns-in-Out c = read_is _ _ _ _ c.run-stop-in-Out.ensures c.finish-in-Out.ensures
