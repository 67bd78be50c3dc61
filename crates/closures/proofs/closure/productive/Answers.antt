-- `closures::closure::productive` meets its contract: what derives the empty row derives a row, so the closure may begin with it.
use borrow.Author.Tests.{tests}
use Rattle.std.proofs.Common.{rules}
use Rattle.closures.proofs.ClosureSteps.{all-begin}
use Rattle.closures.proofs.closure.productive.Goals as goal

pub derivers-requires-clause-begins : goal.derivers-requires-clause-begins
derivers-requires-clause-begins c =
    all-begin _ _ _ _ _ c.requires.0 c.requires.1 c.nonterminals.ensures (search (rules, tests, c.below-all.ensures)) (λ x a w. search (rules, tests))
