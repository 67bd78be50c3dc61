-- The goals of `closures::rounds::need_from` that are not found.
use mathlib.Core.Bool.{not}
use mathlib.Core.Path.{ap}
use Rattle.closures.proofs.NoteSteps.{asks-begin, asks-end, asks-none, asks-never, asks-token, asks-more}
use Rattle.closures.proofs.rounds.need_from.Goals as goal

pub loop-symbol-init : goal.loop-symbol-init
loop-symbol-init c =
    let i = c.into_iter-symbol-iterator.ensures.into_iter_gives in
    let s = c.symbols_from-symbol-items.ensures in
    (rw (i, s.0) c.requires, tt, asks-begin _ _ _ (rw (i, s.0, s.1)))

pub returns-in-End : goal.returns-in-End
returns-in-End c = asks-none _ _ _ _ c.loop-symbol.invariant.2 c.in-Some.ensures.steps.0 c.in-End.is

pub returns-then-not-tokens : goal.returns-then-not-tokens
returns-then-not-tokens c =
    asks-never _ _ _ _ c.loop-symbol.invariant.2 c.in-Some.ensures.steps.0 c.in-Token.is (ap not c.if-not-tokens.true)

pub loop-symbol-preserved-else-not-tokens : goal.loop-symbol-preserved-else-not-tokens
loop-symbol-preserved-else-not-tokens c = (
  c.in-Some.ensures.goes.keeps,
  tt,
  asks-token _ _ _ _ c.loop-symbol.invariant.2 c.in-Some.ensures.steps.0 c.in-Token.is (ap not c.if-not-tokens.false),
)

pub loop-symbol-preserved : goal.loop-symbol-preserved
loop-symbol-preserved c =
    (c.in-Some.ensures.goes.keeps, tt, asks-more _ _ _ _ c.loop-symbol.invariant.2 c.in-Some.ensures.steps.0 c.in-Nonterminal.is c.with-need.ensures)

pub returns : goal.returns
returns c = asks-end _ _ _ _ c.loop-symbol.invariant.2 c.in-None.ensures.steps.0.0
