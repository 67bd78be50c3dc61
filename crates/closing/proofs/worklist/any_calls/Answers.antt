-- `closing::worklist::any_calls` meets its contract: each place of the block is looked at.
use native.Mathlib.Omega.{arith}
use Rattle.closing.proofs.FollowLaws.{uncalled-is}
use Rattle.closing.proofs.worklist.any_calls.Goals as goal

pub calls-requires : goal.calls-requires
calls-requires c = record { long = c.requires.long; within = omega (arith, c.requires.within); small = c.requires.small }

pub overflow_add-p : goal.overflow_add-p
overflow_add-p c = omega (arith, c.requires.within)

pub calls-requires-2 : goal.calls-requires-2
calls-requires-2 c = record { long = c.requires.long; within = omega (arith, c.requires.within); small = c.requires.small }

pub overflow_add-p-2 : goal.overflow_add-p-2
overflow_add-p-2 c = omega (arith, c.requires.within)

pub calls-requires-3 : goal.calls-requires-3
calls-requires-3 c = record { long = c.requires.long; within = omega (arith, c.requires.within); small = c.requires.small }

pub overflow_add-p-3 : goal.overflow_add-p-3
overflow_add-p-3 c = omega (arith, c.requires.within)

pub calls-requires-4 : goal.calls-requires-4
calls-requires-4 c = record { long = c.requires.long; within = omega (arith, c.requires.within); small = c.requires.small }

pub returns : goal.returns
returns c = λ t. uncalled-is c.calls.ensures c.calls-2.ensures c.calls-3.ensures c.calls-4.ensures t
