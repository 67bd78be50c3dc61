-- `search::words::tag_in` meets its contract: the tests are those of `tag_from`.
use Rattle.search.proofs.TagWordLaws.{from-none, from-several, from_one}
use Rattle.search.proofs.words.tag_in.Goals as goal

pub returns-then-e-eq0 : goal.returns-then-e-eq0
returns-then-e-eq0 c = from-none _ c.number-w.ensures c.if-e-eq0.true

pub returns-then-e-eq-SEVERAL : goal.returns-then-e-eq-SEVERAL
returns-then-e-eq-SEVERAL c = from-several _ c.number-w.ensures c.if-e-eq0.false c.if-e-eq-SEVERAL.true

pub returns : goal.returns
returns c = from_one _ c.number-w.ensures c.if-e-eq0.false c.if-e-eq-SEVERAL.false
