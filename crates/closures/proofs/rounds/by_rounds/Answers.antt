-- The goals of `closures::rounds::by_rounds` that are not found.
use mathlib.Core.Path.{sym, ◌∙◌}
use native.Mathlib.Omega.{arith}
use Rattle.closures.proofs.RoundSteps.{round-grows, round-holds, round_keeps, round_exact}
use Rattle.closures.proofs.rounds.by_rounds.Goals as goal

pub returns-then-next-set : goal.returns-then-next-set
returns-then-next-set c =
    round_exact _ _ c.requires.0 _ _ _ _ c.note_rules.ensures.1 _ c.loop-set.invariant.2
    (sym c.if-next-set.true ∙ c.round-next.ensures) c.loop-set.invariant.1

pub loop-set-smaller : goal.loop-set-smaller
loop-set-smaller c = let h = round-grows _ _ _ _ c.round-next.ensures in omega (arith, c.round-next.type_inv)

pub loop-set-preserved : goal.loop-set-preserved
loop-set-preserved c = (
  c.round-next.type_inv,
  round_keeps _ _ c.requires.0 _ _ _ _ c.note_rules.ensures.1 _ _ c.round-next.ensures
      c.loop-set.invariant.1,
  round-holds _ _ _ _ _ c.round-next.ensures c.loop-set.invariant.2,
)
