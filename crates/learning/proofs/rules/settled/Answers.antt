-- `learning::rules::settled` meets its contract: each of them is asked whether it has a rival.
use borrow.Author.Tests.{tests}
use Prim.Native.Nat.{ℕ, ◌-◌}
use mathlib.Core.Bool.{Bool, not}
use Rattle.std.proofs.Common.{rules, refl, ◌∙◌}
use Rattle.std.proofs.lemmas.Iterator.{YieldsList-from_range}
use Rattle.std.proofs.lemmas.Iterator.Search.{any_from_yields_List}
use Rattle.base.specs.Rounds.{any_of}
use Rattle.lookahead.specs.Configs.{Config}
use Rattle.lookahead.specs.Outcomes.{rivals, settled}
use Rattle.configurations.specs.inside.Packed.{config_of, packed_at}
use Rattle.configurations.specs.inside.Held.{config_at, configs_from}
use Rattle.configurations.proofs.HeldLaws.{any-range}
use Rattle.learning.proofs.rules.settled.Goals as goal

pub returns : goal.returns
unfolding settled config_at
returns c =
    let ks = configs_from c.args.members.now c.args.first (c.args.n - c.args.first) in
    let P : ℕ → Bool = λ j. not (any_of (rivals (config_of (packed_at c.args.members.now j))) ks) in
    any_from_yields_List P _ _ c.any.result c.any.ensures.ran (YieldsList-from_range _ _ _ refl refl) (λ x b q k. search (rules, tests))
    ∙ any-range c.args.members.now (λ (k : Config). not (any_of (rivals k) ks)) c.args.first _
