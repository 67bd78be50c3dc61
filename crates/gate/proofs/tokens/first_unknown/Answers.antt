-- `gate::tokens::first_unknown` meets its contract: the first token of which the test holds is the lowest position of an unknown one.
use borrow.Author.Tests.{tests}
use mathlib.Core.Path.{refl, ◌∙◌}
use mathlib.Core.Bool.{not}
use Rattle.std.proofs.Common.{rules}
use Rattle.std.proofs.lemmas.Iterator.{YieldsList-from_slice}
use Rattle.std.proofs.lemmas.Iterator.Search.{position_from_yields_List}
use Rattle.base.proofs.Lowest.{position-lowest}
use Rattle.derivation.specs.Gate.{known?, first_unknown}
use Rattle.gate.proofs.PassingLaws.{unknown-is}
use Rattle.gate.proofs.tokens.first_unknown.Goals as goal

pub returns : goal.returns
unfolding first_unknown
returns c =
    position_from_yields_List (λ t. not (known? c.args.kinds t)) _ _ c.position.result c.position.ensures.ran (YieldsList-from_slice c.args.note.now cc)
    (λ x b q k. search (rules, tests, unknown-is))
    ∙ position-lowest (λ t. not (known? c.args.kinds t)) c.args.note.now _ (λ k l. refl)
