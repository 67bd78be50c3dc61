-- The goals of `closures::closure::some_passes` that are not found.
use borrow.Author.Tests.{tests}
use Prim.Native.Nat.{ℕ}
use mathlib.Core.Bool.{Bool}
use Rattle.std.proofs.Common.{rules, ◌∙◌, sym}
use Rattle.std.proofs.lemmas.Iterator.{YieldsList-from_slice}
use Rattle.std.proofs.lemmas.Iterator.Search.{any_from_yields_List}
use Rattle.base.specs.Bits.{test_bit}
use Rattle.base.proofs.Lists.{any_is}
use Rattle.grammar.specs.Grammar.{suffix, alternatives}
use Rattle.grammar.specs.inside.Tables.{grammar_in}
use Rattle.closures.specs.Closures.{passes, deriving_round}
use Rattle.closures.proofs.closure.some_passes.Goals as goal

pub returns : goal.returns
unfolding deriving_round
returns c =
    let P : ℕ → Bool = λ f. passes c.args.tokens (test_bit c.args.set) (suffix (grammar_in c.args.tables.now) f) in
    any_from_yields_List P _ _ c.any.result c.any.ensures.ran (YieldsList-from_slice c.first_places.result.now cc) (λ x b q k. search (rules, tests))
    ∙ rw c.first_places.ensures (sym (any_is P (alternatives (grammar_in c.args.tables.now) c.args.a)))
