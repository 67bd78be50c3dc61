-- `learning::learn::finish` meets its contract: each answer of closing, sorting and judging is one of the outcome.
use Rattle.configurations.proofs.GrowSteps.{grow-room}
use Rattle.learning.proofs.OutcomeLaws.{finish-over, finish-many, finish-judges, finish-judged}
use Rattle.learning.proofs.learn.finish.Goals as goal

pub close-requires : goal.close-requires
close-requires c = (c.requires.0, c.requires.1)

pub returns-in_default : goal.returns-in_default
returns-in_default c = finish-over _ c.close.ensures c.in_default.is _

pub sort-requires : goal.sort-requires
sort-requires c = (c.requires.0.fits.long, grow-room c.close.ensures _ c.in-Some.is)

pub returns-in_default-sort : goal.returns-in_default-sort
returns-in_default-sort c = finish-many _ c.close.ensures _ c.in-Some.is _ c.sort.ensures c.in_default-sort.is _

pub judge-requires : goal.judge-requires
judge-requires c = finish-judges _ c.close.ensures _ c.in-Some.is _ c.sort.ensures _ c.in-Some-sort.is

pub returns : goal.returns
returns c = finish-judged _ c.close.ensures _ c.in-Some.is _ c.sort.ensures _ c.in-Some-sort.is _ c.judge.ensures
