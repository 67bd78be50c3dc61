-- `opening::empties::empty` meets its contract: the first place in the list of the nonterminal's productions that vanishes is its lowest alternative that does.
use borrow.Author.Tests.{tests}
use mathlib.Core.Bool.{Bool, false}
use mathlib.Core.Path.{◌≡◌}
use Prim.Native.Nat.{ℕ, ◌+◌}
use Rattle.std.proofs.Common.{rules}
use Rattle.std.proofs.lemmas.Iterator.{YieldsList-from_slice}
use Rattle.std.proofs.lemmas.Iterator.Search.{position_from_yields_List}
use Rattle.std.proofs.lemmas.Iterator.Adapters.{position_from-zero}
use Rattle.std.specs.Prelude.{option_map}
use Rattle.base.specs.Bits.{test_bit}
use Rattle.grammar.specs.Grammar.{suffix}
use Rattle.grammar.specs.inside.Tables.{grammar_in}
use Rattle.closures.specs.Closures.{passes}
use Rattle.opening.proofs.EmptyLaws.{placed-empty}
use Rattle.opening.proofs.empties.empty.Goals as goal

pub returns : goal.returns
returns c =
    let P : ℕ → Bool = λ f. passes false (test_bit c.args.set) (suffix (grammar_in c.args.tables.now) f) in
    let e = position_from_yields_List P _ _ c.position.result c.position.ensures.ran (YieldsList-from_slice c.first_places.result.now cc)
    (λ x b q k. (search (rules, tests), search (rules, tests))) in
    let z : c.map.result ≡ option_map (λ k. k + 1) c.position.result = search rules in
    rw (z, e, position_from-zero P c.first_places.result.now, c.first_places.ensures) (placed-empty c.args.tables.now c.args.set c.args.a)
