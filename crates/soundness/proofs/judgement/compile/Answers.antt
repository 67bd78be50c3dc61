-- `soundness::judgement::compile` meets its contract: the bytes are refused, or the tables fit, hold no left corner yet and say the compiled grammar, and then
-- the judgement on it is that of `check_of`.
use Rattle.soundness.proofs.Judging.{compile-refused, compile-fits, compile-judged}
use mathlib.Core.Path.{refl}
use Rattle.soundness.proofs.judgement.compile.Goals as goal

pub judge-requires : goal.judge-requires
judge-requires c = compile-fits _ _ c.requires c.read_grammar-answer.ensures.0 c.in-Value.is

pub returns-in-Refused : goal.returns-in-Refused
returns-in-Refused c = compile-refused _ _ c.requires c.read_grammar-answer.ensures.0 c.in-Refused.is refl

pub returns-in-Value : goal.returns-in-Value
returns-in-Value c = compile-judged _ _ c.requires c.read_grammar-answer.ensures.0 c.in-Value.is c.judge.ensures
