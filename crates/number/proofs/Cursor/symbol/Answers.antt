-- `number::Cursor::symbol` meets its contract: each way out, a number refused, an illegal symbol or a legal one, is one case of `symbol_at`.
use mathlib.Core.Bool.{not}
use mathlib.Core.Path.{ap}
use Rattle.number.proofs.NumberLaws.{symbol-refused, symbol-illegal, symbol-in}
use Rattle.number.proofs.Cursor.symbol.Goals as goal

pub returns-in_default : goal.returns-in_default
returns-in_default c = symbol-refused _ _ _ _ c.number-n.ensures c.in_default.is

pub returns-then-not-is_legal : goal.returns-then-not-is_legal
returns-then-not-is_legal c = symbol-illegal _ _ _ _ c.number-n.ensures c.in-Value.is c.is_legal.ensures (ap not c.if-not-is_legal.true)

pub returns : goal.returns
returns c = symbol-in _ _ _ _ c.number-n.ensures c.in-Value.is c.is_legal.ensures (ap not c.if-not-is_legal.false)
