-- `splitter::cutting::first_foreign` meets its contract: the first byte of the class foreign is the lowest place of one.
use borrow.Author.Tests.{tests}
use mathlib.Core.Path.{refl, ◌∙◌}
use Rattle.std.proofs.Common.{rules}
use Rattle.std.proofs.lemmas.Iterator.{YieldsList-from_slice}
use Rattle.std.proofs.lemmas.Iterator.Search.{position_from_yields_List}
use Rattle.base.proofs.Lowest.{position-lowest}
use Rattle.splitter.specs.Classes.{foreign?}
use Rattle.splitter.specs.Items.{first_foreign}
use Rattle.splitter.proofs.cutting.first_foreign.Goals as goal

pub returns : goal.returns
unfolding first_foreign foreign?
returns c =
    position_from_yields_List foreign? _ _ c.position.result c.position.ensures.ran (YieldsList-from_slice c.args.line.now cc)
    (λ x b q k. search (rules, tests))
    ∙ position-lowest foreign? c.args.line.now _ (λ k l. refl)
