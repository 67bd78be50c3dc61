-- `configurations::members::has_head` meets its contract: whoever has another head is another configuration.
use borrow.Author.Tests.{tests}
use native.Mathlib.Omega.{arith}
use Rattle.std.proofs.Common.{rules, refl, sym, ◌∙◌}
use Rattle.std.proofs.lemmas.Iterator.{YieldsList-from_range}
use Rattle.std.proofs.lemmas.Iterator.Search.{any_from_yields_List}
use Rattle.configurations.specs.inside.Held.{block_members}
use Rattle.configurations.proofs.SearchLaws.{part-known, headed, block_none}
use Rattle.configurations.proofs.members.has_head.Goals as goal

pub returns : goal.returns
returns c = λ f.
    let ws = c.args.members.now in
    let asked = any_from_yields_List (headed ws c.args.c) _ _ c.any.result c.any.ensures.ran (YieldsList-from_range _ _ block_members refl (omega arith))
    (λ x b q k. search (rules, tests)) in
    block_none ws c.args.c c.requires.1 c.args.k block_members (part-known _ _ c.requires.0 _ refl) (sym asked ∙ f)
