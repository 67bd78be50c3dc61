-- `quick::reading::refuse` meets its contract: a judged note is answered at once; where the budget is out, the cells are filled unless they are right, and
-- they answer.
use Rattle.base.proofs.Booleans.{clash}
use Rattle.quick.proofs.QuickRefuse.{out-wanted, out-given, sentence-short, sentence-stuck, wrong-is, cells-full, cells-stuck}
use Rattle.quick.proofs.reading.refuse.Goals as goal

pub returns-then-full : goal.returns-then-full
returns-then-full c =
    sentence-short _ _ _ _ _ c.requires c.judge-judged.ensures _ c.in-Sentence.is c.if-full.true
    c.clear_from.ensures

pub fill_cells-requires : goal.fill_cells-requires
fill_cells-requires c = out-wanted _ _ _ _ _ c.requires c.judge-judged.ensures c.standing-stand.ensures

pub finish-requires : goal.finish-requires
finish-requires c = (out-given _ _ _ _ _ c.requires c.judge-judged.ensures c.fill_cells.ensures, λ k z. clash (cc))

pub returns-then-full-2 : goal.returns-then-full-2
returns-then-full-2 c = cells-full _ _ _ c.if-full-2.true c.finish.ensures

pub finish-requires-in-Out : goal.finish-requires-in-Out
finish-requires-in-Out c = (out-given _ _ _ _ _ c.requires c.judge-judged.ensures c.fill_cells.ensures, λ k z. clash (cc))

pub returns-in-Wrong : goal.returns-in-Wrong
returns-in-Wrong c = wrong-is _ _ _ _ _ c.requires c.judge-judged.ensures _ c.args.full c.in-Wrong.is c.wrong.ensures

pub returns-else-full : goal.returns-else-full
returns-else-full c =
    sentence-stuck _ _ _ _ _ c.requires c.judge-judged.ensures _ c.in-Sentence.is c.if-full.false
    c.wrong-in-Sentence.ensures

pub returns-else-full-2 : goal.returns-else-full-2
returns-else-full-2 c = cells-stuck _ _ _ c.if-full-2.false c.finish-in-Out.ensures
