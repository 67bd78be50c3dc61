-- The goals of `closures::rounds::Rows::round` that are not found.
use mathlib.Core.Path.{refl, sym, ◌∙◌}
use mathlib.Core.List.{[], ◌∷◌}
use lib.ListN.{length-append}
use Rattle.std.proofs.Common.{rules}
use Rattle.closures.specs.inside.Steps.{round_of}
use Rattle.closures.proofs.RoundSteps.{round-next, round-more}
use Rattle.closures.proofs.rounds.Rows.round.Goals as goal

pub loop-need-init : goal.loop-need-init
unfolding round_of
loop-need-init c =
    let i = c.into_iter-need-iterator.ensures.into_iter_gives in
    let z = c.zip-need-items.ensures in (rw i (search rules), rw i (search rules), refl)

pub loop-need-preserved : goal.loop-need-preserved
loop-need-preserved c =
    let (n, o, i) = c.loop-need.invariant in
    let s = c.in-Some.ensures.steps in
    let m = length-append c.loop-need.yielded ((c.in-Some.need, c.in-Some.owners) ∷ []) in
    let x = round-next _ _ _ _ _ (sym n ∙ s.0) m in
    let y = round-next _ _ _ _ _ (sym o ∙ s.1) m in
    (x.0, y.0, rw m (round-more _ _ _ _ i (c.added-next.ensures ∙ rw (x.1, y.1))))
