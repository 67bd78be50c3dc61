-- `configurations::members::among` meets its contract: one with another head is another configuration.
use borrow.Author.Tests.{tests}
use native.Mathlib.Omega.{arith}
use Rattle.std.proofs.Common.{rules, refl, ◌∙◌}
use Rattle.std.proofs.lemmas.Iterator.{YieldsList-from_range}
use Rattle.std.proofs.lemmas.Iterator.Search.{any_from_yields_List}
use Rattle.configurations.proofs.SearchLaws.{part-known, found, found-among}
use Rattle.configurations.proofs.members.among.Goals as goal

pub returns : goal.returns
returns c =
    let ws = c.args.members.now in
    any_from_yields_List (found ws c.args.c) _ _ c.any.result c.any.ensures.ran (YieldsList-from_range _ _ _ refl refl) (λ x b q k. search (rules, tests))
    ∙ found-among ws c.args.c c.requires.1 c.args.from _ (part-known _ _ c.requires.0 _ (omega (arith, c.requires.0.within)))
