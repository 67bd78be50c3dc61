-- `quick::reading::over` meets its contract: 12 and 13 are refused before a word changes, and a begun cache is long enough to be read over.
use Rattle.quick.proofs.ReadingLaws.{cache-refused, over-note}
use Rattle.quick.proofs.reading.over.Goals as goal

pub read-requires : goal.read-requires
read-requires c = (c.requires.0, c.requires.1 c.in_default.is)

pub returns-in-Err : goal.returns-in-Err
returns-in-Err c = cache-refused _ _ _ _ c.in-Err.is c.refused.ensures

pub returns : goal.returns
returns c = over-note _ _ _ _ c.in_default.is c.read.ensures
