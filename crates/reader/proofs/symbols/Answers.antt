-- The goals of `reader::symbols` that are not found.
use native.Mathlib.Omega.{arith}
use borrow.Author.Rules.{rules}
use mathlib.Core.Path.{◌≡◌, refl, ◌∙◌}
use Prim.Native.Nat.{◌+◌, ◌-◌}
use lib.ListN.{length-set}
use Rattle.grammar.specs.inside.Tables.{codes}
use Rattle.number.proofs.NumberLaws.{symbol_low}
use Rattle.number.proofs.CountLaws.{symbol-tallied}
use Rattle.reader.proofs.PassSteps.{symbols-left, symbols-done, symbols-refused, symbols-more}
use Rattle.reader.proofs.symbols.Goals as goal

pub loop-p-init : goal.loop-p-init
loop-p-init c = (omega arith, refl, symbols-left _ _ _ _ _ _ _ (omega arith), search rules)

pub returns-in_default : goal.returns-in_default
returns-in_default c = symbols-refused _ _ _ _ _ _ _ _ (omega arith) c.loop-p.invariant.2 c.symbol-n.ensures c.in_default.is

pub symbol_word-requires : goal.symbol_word-requires
symbol_word-requires c =
    let low = symbol_low _ _ _ _ (codes - 1) (omega arith) (omega arith) c.symbol-n.ensures c.in-Value.is in
    omega arith

pub loop-p-preserved : goal.loop-p-preserved
loop-p-preserved c = (
  omega arith,
  simp length-set (omega arith),
  symbols-left _ _ _ _ _ _ _ (omega arith)
      ∙ symbols-more _ _ _ _ _ _ _ _ (omega arith) c.loop-p.invariant.2 c.symbol-n.ensures c.in-Value.is c.symbol_word.ensures,
  symbol-tallied _ _ c.loop-p.invariant.3.1 _ _ c.symbol-n.ensures c.in-Value.is,
)

pub returns : goal.returns
returns c =
    let e : c.loop-p.p ≡ c.args.first + c.args.count = omega arith in
    symbols-done _ _ _ _ _ _ _ _ c.loop-p.invariant.3 (omega arith) (rw e at c.loop-p.invariant.2) c.end_word.ensures
