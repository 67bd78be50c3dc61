-- `cells::matches` meets its contract: behind the note's end there is no token, and before it the one that stands there is asked for.
use borrow.Author.Tests.{tests}
use Rattle.std.proofs.Common.{rules, arith}
use Rattle.cells.proofs.MatchLaws.{matches-asked}
use Rattle.cells.proofs.matches.Goals as goal

pub returns : goal.returns
returns c = matches-asked _ _ _ _ _ _ (λ x p. search (rules, tests)) (omega arith) c.get.ensures.lookup c.is_some_and.ensures
