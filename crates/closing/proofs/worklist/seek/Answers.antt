-- The goals of `closing::worklist::seek` that are not found.
use mathlib.Core.Path.{refl}
use native.Mathlib.Omega.{arith}
use Rattle.closing.proofs.FollowLaws.{sought-on}
use Rattle.closing.proofs.worklist.seek.Goals as goal

pub returns-then-p-ne0 : goal.returns-then-p-ne0
returns-then-p-ne0 c = record { from = omega arith; to = c.requires.from; same = refl }

pub loop-q-init : goal.loop-q-init
loop-q-init c = record { from = omega arith; to = c.requires.from; same = refl }

pub overflow_add-q : goal.overflow_add-q
overflow_add-q c = omega (arith, c.requires.few, c.loop-q.invariant.to)

pub any_calls-requires : goal.any_calls-requires
any_calls-requires c =
    record { long = c.requires.ready.fits.long; within = omega (arith, c.requires.few, c.loop-q-test.true); small = c.requires.small }

pub returns-else-not-any_calls : goal.returns-else-not-any_calls
returns-else-not-any_calls c = c.loop-q.invariant

pub loop-q-preserved : goal.loop-q-preserved
loop-q-preserved c =
    sought-on _ c.requires.ready _ _ _ _ c.requires.few c.loop-q-test.true c.loop-q.invariant
    (c.any_calls.ensures c.if-not-any_calls.true)

pub returns-after-loop-q : goal.returns-after-loop-q
returns-after-loop-q c = c.loop-q.invariant
