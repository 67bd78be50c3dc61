-- The goals of `first_follow::joining::joined` that are not found.
use Rattle.first_follow.proofs.JoinLaws.{joining-begins, joining-next, joining-ends}
use Rattle.first_follow.proofs.joining.joined.Goals as goal

pub loop-x-init : goal.loop-x-init
loop-x-init c =
    let i = c.into_iter-x-iterator.ensures.into_iter_gives in
    (tt, tt, joining-begins _ _ _ {left = c.into_iter-x-iterator.result.left} (rw i c.members-x-items.ensures))

pub loop-x-preserved : goal.loop-x-preserved
loop-x-preserved c = let s = c.in-Some.ensures.steps in (tt, tt, joining-next _ _ _ _ _ c.loop-x.invariant.2 _ _ s.0 s.1)

pub returns : goal.returns
returns c = joining-ends _ _ _ _ _ c.loop-x.invariant.2 c.in-None.ensures.steps.0
