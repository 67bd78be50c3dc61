-- The goals of `corners::moves::left_from` that are not found.
use mathlib.Core.Bool.{not}
use mathlib.Core.Path.{ap}
use Rattle.corners.proofs.LeftSteps.{left-ends, left-token, left-stops, left-goes}
use Rattle.corners.proofs.moves.left_from.Goals as goal

pub loop-symbol-init : goal.loop-symbol-init
loop-symbol-init c =
    let i = c.into_iter-symbol-iterator.ensures.into_iter_gives in
    let s = c.symbols_from-symbol-items.ensures in
    (rw (i, s.0) c.requires, tt, λ b. rw (i, s.0, s.1))

pub returns-in_default : goal.returns-in_default
returns-in_default c = left-token _ _ _ _ _ c.loop-symbol.invariant.2 c.in-Some.ensures.steps.0 c.in_default.not-Nonterminal

pub returns-then-not-has : goal.returns-then-not-has
returns-then-not-has c =
    left-stops _ _ _ _ _ c.loop-symbol.invariant.2 c.in-Some.ensures.steps.0 c.in-Nonterminal.is c.with-set.ensures c.has.ensures (ap not c.if-not-has.true)

pub loop-symbol-preserved : goal.loop-symbol-preserved
loop-symbol-preserved c = (
  c.in-Some.ensures.goes.keeps,
  tt,
  left-goes _ _ _ _ _ c.loop-symbol.invariant.2 c.in-Some.ensures.steps.0 c.in-Nonterminal.is c.with-set.ensures c.has.ensures (ap not c.if-not-has.false),
)

pub returns : goal.returns
returns c = left-ends _ _ _ _ _ c.loop-symbol.invariant.2 c.in-None.ensures.steps.0.0
