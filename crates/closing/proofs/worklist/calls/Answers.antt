-- `closing::worklist::calls` meets its contract: a nonterminal's code stands in the low eight bits of a place's word.
use native.Mathlib.Omega.{arith}
use Rattle.closing.proofs.FollowLaws.{calls_is}
use Rattle.closing.proofs.worklist.calls.Goals as goal

pub bounds-tables-p : goal.bounds-tables-p
bounds-tables-p c = omega (arith, c.requires.long, c.requires.within)

pub overflow_mul-result : goal.overflow_mul-result
overflow_mul-result c = omega (arith, c.requires.small)

pub overflow_add-result : goal.overflow_add-result
overflow_add-result c = omega (arith, c.requires.small)

pub returns : goal.returns
returns c = calls_is _ _ _ c.requires.within c.from.ensures
