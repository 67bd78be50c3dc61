-- `learning::learn::passes` meets its contract: the symbol that the place faces decides, and of a token the grammar says whom it admits.
use Rattle.learning.proofs.AdvanceLaws.{passes-token, passes-other}
use Rattle.learning.proofs.learn.passes.Goals as goal

pub returns-in-Token : goal.returns-in-Token
returns-in-Token c = passes-token _ _ _ c.place.ensures c.place_at.ensures _ c.in-Token.is c.admits.ensures

pub returns-in_default : goal.returns-in_default
returns-in_default c = passes-other _ _ _ c.place.ensures c.place_at.ensures c.in_default.not-Token
