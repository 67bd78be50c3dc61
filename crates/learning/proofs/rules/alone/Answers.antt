-- `learning::rules::alone` meets its contract: each of them is asked whether it is a rival of c.
use borrow.Author.Tests.{tests}
use Prim.Native.Nat.{ℕ}
use mathlib.Core.Bool.{Bool, not}
use Rattle.std.proofs.Common.{rules, refl, ap, ◌∙◌}
use Rattle.std.proofs.lemmas.Iterator.{YieldsList-from_range}
use Rattle.std.proofs.lemmas.Iterator.Search.{any_from_yields_List}
use Rattle.lookahead.specs.Outcomes.{rivals}
use Rattle.configurations.specs.inside.Packed.{config_of, packed_at}
use Rattle.configurations.specs.inside.Held.{config_at}
use Rattle.configurations.proofs.HeldLaws.{any-range}
use Rattle.learning.proofs.rules.alone.Goals as goal

pub returns : goal.returns
unfolding config_at
returns c =
    let P : ℕ → Bool = λ j. rivals (config_of c.args.c) (config_of (packed_at c.args.members.now j)) in
    ap not
    (any_from_yields_List P _ _ c.any.result c.any.ensures.ran (YieldsList-from_range _ _ _ refl refl) (λ x b q k. search (rules, tests))
    ∙ any-range c.args.members.now (rivals (config_of c.args.c)) c.args.first _)
