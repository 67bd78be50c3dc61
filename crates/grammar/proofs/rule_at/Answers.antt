-- `grammar::rule_at` meets its contract: the word of nonterminal a lies in the tables, for there is one more of them than nonterminals.
use Rattle.grammar.specs.inside.Tables.{rules_at, rule_at}
use Prim.Native.Nat.{◌+◌}
use native.Mathlib.Omega.{arith}
use Rattle.grammar.proofs.rule_at.Goals as goal

pub overflow_add-result : goal.overflow_add-result
overflow_add-result c = omega (arith, c.shared_slice_known-2-1.given (rules_at + c.args.a))

pub returns : goal.returns
unfolding rule_at
returns c = omega arith
