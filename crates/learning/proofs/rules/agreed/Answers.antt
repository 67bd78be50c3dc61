-- `learning::rules::agreed` meets its contract: each of them is asked for its alternative.
use borrow.Author.Tests.{tests}
use Prim.Native.Nat.{ℕ}
use lib.Dec.{eqb}
use mathlib.Core.Bool.{Bool}
use Rattle.std.proofs.Common.{rules, refl, ◌∙◌}
use Rattle.std.proofs.lemmas.Iterator.{YieldsList-from_range}
use Rattle.std.proofs.lemmas.Iterator.Search.{all_from_yields_List}
use Rattle.lookahead.specs.Configs.{Config}
use Rattle.lookahead.specs.Outcomes.{agreed}
use Rattle.configurations.specs.inside.Packed.{config_of, packed_at}
use Rattle.configurations.specs.inside.Held.{config_at}
use Rattle.configurations.proofs.HeldLaws.{all-range}
use Rattle.learning.proofs.rules.agreed.Goals as goal

pub returns : goal.returns
unfolding agreed config_at
returns c =
    let P : ℕ → Bool = λ j. eqb (config_of (packed_at c.args.members.now j)).alternative c.args.b in
    all_from_yields_List P _ _ c.all.result c.all.ensures.ran (YieldsList-from_range _ _ _ refl refl) (λ x b q k. search (rules, tests))
    ∙ all-range c.args.members.now (λ (k : Config). eqb k.alternative c.args.b) c.args.from _
