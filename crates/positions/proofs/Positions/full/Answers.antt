-- `Positions::full` meets its contract: every position from `from` on is a member up to the least one that the opposite set holds,
-- which is none.
use borrow.Author.Tests.{tests}
use Rattle.std.proofs.Common.{rules}
use Rattle.positions.proofs.SetLaws.{full-by}
use Rattle.positions.proofs.Positions.full.Goals as goal

pub returns : goal.returns
returns c = full-by _ _ _ _ c.requires c.opposite.ensures _ (λ m p. search (rules, tests)) _ c.least.ensures c.is_none_or.ensures
