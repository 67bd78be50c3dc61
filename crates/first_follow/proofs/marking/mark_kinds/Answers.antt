-- The goals of `first_follow::marking::mark_kinds` that are not found.
use native.Mathlib.Omega.{arith}
use Rattle.first_follow.proofs.JoinLaws.{kinds-none, kinds-next, kinds-upto}
use Rattle.first_follow.proofs.marking.mark_kinds.Goals as goal

pub loop-t-init : goal.loop-t-init
loop-t-init c = (c.requires.1.masks-long, kinds-none _)

pub loop-t-preserved : goal.loop-t-preserved
loop-t-preserved c = (c.mark_kind.ensures.0, kinds-next _ _ _ _ c.loop-t.invariant.1 c.mark_kind.ensures.1)

pub returns : goal.returns
returns c = (c.loop-t.invariant.0, kinds-upto _ _ _ _ c.loop-t.invariant.1 (omega arith))
