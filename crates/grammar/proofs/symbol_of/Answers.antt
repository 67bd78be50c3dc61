-- `grammar::symbol_of` meets its contract: each way out is one case of `symbol_of`.
use Rattle.grammar.proofs.WordLaws.{code-end, code-token, code-nonterminal}
use native.Mathlib.Omega.{arith}
use Rattle.grammar.proofs.symbol_of.Goals as goal

pub returns-then-code-eq0 : goal.returns-then-code-eq0
returns-then-code-eq0 c = code-end _ (omega arith)

pub returns-then-code-eq1 : goal.returns-then-code-eq1
returns-then-code-eq1 c = code-token _ c.if-code-eq0.false (omega arith)

pub returns-else-code-eq1 : goal.returns-else-code-eq1
returns-else-code-eq1 c = code-nonterminal _ c.if-code-eq0.false c.if-code-eq1.false
