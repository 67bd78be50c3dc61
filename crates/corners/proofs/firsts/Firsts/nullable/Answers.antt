-- `corners::firsts::Firsts::nullable` meets its contract: without an empty production nothing derives the empty row; else what stands first in productions is
-- what the closure asks for.
use Rattle.corners.proofs.FirstLaws.{gathered, found_none}
use Rattle.corners.proofs.firsts.Firsts.nullable.Goals as goal

pub returns-then-self-eq0 : goal.returns-then-self-eq0
returns-then-self-eq0 c = (found_none _ _ _ _ c.requires.2 c.if-self-eq0.true).vanish

pub nullable-requires : goal.nullable-requires
nullable-requires c = gathered _ _ _ _ c.requires.2 c.requires.0 c.requires.1
