-- `derivation::token_at` meets its contract: behind the last token of a note stands the end mark, before it the tokens stand as in the note.
use borrow.Author.Tests.{tests}
use Rattle.std.proofs.Common.{rules}
use Rattle.derivation.proofs.TokenLaws.{token-asked}
use Rattle.derivation.proofs.token_at.Goals as goal

pub returns : goal.returns
returns c = token-asked _ _ c.requires _ _ (λ x p. search (rules, tests)) c.get.ensures.lookup c.map_or.ensures
