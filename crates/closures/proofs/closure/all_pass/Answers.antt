-- `closures::closure::all_pass` meets its contract: a production passes if each of its symbols does.
use borrow.Author.Tests.{tests}
use mathlib.Core.Bool.{Bool}
use mathlib.Core.Path.{◌∙◌}
use mathlib.Core.List.{[], ◌∷◌}
use Rattle.std.proofs.Common.{rules}
use Rattle.std.proofs.lemmas.Iterator.Search.{all_from_yields_List}
use Rattle.base.specs.Bits.{test_bit}
use Rattle.grammar.specs.declared.Symbol.{Symbol}
use Rattle.grammar.specs.Grammar.{suffix}
use Rattle.grammar.specs.inside.Tables.{grammar_in}
use Rattle.grammar.proofs.SymbolChains.{symbols_come, symbols_serve, among-few}
use Rattle.closures.specs.Closures.{passes}
use Rattle.closures.proofs.ClosureSteps.{all-passes}
use Rattle.closures.proofs.closure.all_pass.Goals as goal

pub all-requires-clause-callable : goal.all-requires-clause-callable
all-requires-clause-callable c =
    symbols_serve (λ x q k. search (rules, tests)) (λ x a. let m = among-few _ _ c.requires c.symbols_from.ensures.0 x a in search rules)

pub returns : goal.returns
returns c =
    let P : Symbol → Bool = λ x. passes c.args.tokens (test_bit c.args.set) (x ∷ []) in
    all_from_yields_List P c.all.new.self _ c.all.result c.all.ensures.ran (symbols_come c.symbols_from.result) (λ x b q k. search (rules, tests))
    ∙ rw (c.symbols_from.ensures.0, c.symbols_from.ensures.1)
    (all-passes c.args.tokens (test_bit c.args.set) (suffix (grammar_in c.args.tables.now) c.args.first))
