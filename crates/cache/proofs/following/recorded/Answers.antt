-- The goals of `cache::following::recorded` that are not found.
use native.Mathlib.Omega.{arith}
use Rattle.cache.proofs.PredictSteps.{token-small}
use Rattle.cache.proofs.FollowSteps.{following-start, following-on, following-out, following-done}
use Rattle.cache.proofs.following.recorded.Goals as goal

pub loop-s-init : goal.loop-s-init
loop-s-init c = (following-start _ _ _ _ c.start_of-said.ensures, omega (arith, c.requires.within))

pub returns-then-slots-s : goal.returns-then-slots-s
returns-then-slots-s c = following-out _ _ _ _ c.loop-s.invariant.0 _ c.in-Some.ensures c.slots-slots.ensures c.then-slots-s.either

pub step_of-said-requires : goal.step_of-said-requires
step_of-said-requires c = (omega (arith, c.slots-slots.ensures), token-small c.args.note.now c.requires.kinds c.loop-s.j c.token_at-t.ensures)

pub loop-s-preserved : goal.loop-s-preserved
loop-s-preserved c =
    let token = c.token_at-t.ensures in (
      following-on _ _ _ _ c.loop-s.invariant.0 _ c.in-Some.ensures c.slots-slots.ensures (omega arith) token
          c.step_of-said.ensures,
      omega arith,
    )

pub returns : goal.returns
returns c = following-done _ _ _ _ c.loop-s.invariant.0 c.in_default.ensures
