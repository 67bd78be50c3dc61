-- `closures::closure::nullable` meets its contract: an empty production derives the empty row, so the closure may begin with those that have one; whoever has
-- no production that begins with a nonterminal derives the empty row no other way.
use borrow.Author.Tests.{tests}
use Rattle.std.proofs.Common.{rules}
use Rattle.closures.proofs.ClosureSteps.{led-begin}
use Rattle.closures.proofs.closure.nullable.Goals as goal

pub derivers-requires-clause-begins : goal.derivers-requires-clause-begins
derivers-requires-clause-begins c = led-begin _ _ _ _ _ c.requires (λ x a w. search (rules, tests))
