-- The goals of `search::given::Search::settle` that are not found.
use mathlib.Core.Path.{◌≡◌}
use Prim.Native.Nat.{◌-◌}
use native.Mathlib.Omega.{arith}
use Rattle.std.proofs.lemmas.Result.{err_from_is_err_and}
use Rattle.search.specs.declared.walking.Halt.TheVariants.{Needs}
use Rattle.search.proofs.ReplyLaws.{pair-asked}
use Rattle.search.proofs.SettleSteps.{room_small, settling-begins, settling-asks, room-left, waiting-small, may-wait, may-put}
use Rattle.search.proofs.SettleSteps.{read-wait, trial-fits, settled-out, settled-all, settling-back, settling-on}
use Rattle.search.proofs.given.Search.settle.Goals as goal

pub overflow_add-room : goal.overflow_add-room
overflow_add-room c =
    let h = c.requires in
    omega (arith, h.sized.tokens, h.searching.given.short)

pub overflow_mul-room : goal.overflow_mul-room
overflow_mul-room c =
    let h = c.requires in
    omega (arith, room_small c.args.self.size h.searching.given h.sized)

pub loop-ends-init : goal.loop-ends-init
loop-ends-init c = settling-begins _ _ _ _ _ _ _ c.requires.searching.holds c.requires.pair

pub attempt-trial-requires : goal.attempt-trial-requires
attempt-trial-requires c =
    settling-asks _ _ _ _ _ _ _ c.loop-ends.invariant c.requires.searching.given c.requires.searching.room c.requires.sized

pub returns-in_err-pay : goal.returns-in_err-pay
returns-in_err-pay c =
    let kept = c.in_err-pay.ensures.1 in
    let p = err_from_is_err_and c.from_residual.result c.from_residual.ensures.1 in
    rw p.1 (settled-out _ _ _ _ _ _ _ c.loop-ends.invariant c.attempt-trial.ensures (rw kept (omega arith)) (rw kept))

pub store-requires : goal.store-requires
store-requires c =
    let h = c.requires in (
      pair-asked (settling-asks _ _ _ _ _ _ _ c.loop-ends.invariant h.searching.given h.searching.room h.sized),
      (trial-fits _ _ _ _ _ _ _ c.loop-ends.invariant c.attempt-trial.ensures c.in-Ok.is).0,
    )

pub returns-then-waiting-eq0 : goal.returns-then-waiting-eq0
returns-then-waiting-eq0 c =
    let paid = c.in_ok-pay.ensures in
    settled-all _ _ _ _ _ _ _ c.loop-ends.invariant c.attempt-trial.ensures c.in-Ok.is c.requires.sized c.store.ensures.0 c.store.ensures.1
    (omega arith) (omega (arith, paid.0)) paid.1

pub wait_of-next-requires : goal.wait_of-next-requires
wait_of-next-requires c =
    let h = c.requires in
    may-wait _ _ _ _ _ _ _ c.loop-ends.invariant c.store.new.ws h.searching.given h.searching.room h.sized (omega arith) c.store.ensures.0.long

pub loop-ends-preserved-in-Ok : goal.loop-ends-preserved-in-Ok
loop-ends-preserved-in-Ok c =
    let paid = c.in_ok-pay.ensures in
    let sized = c.requires.sized in
    settling-back _ _ _ _ _ _ _ c.loop-ends.invariant c.attempt-trial.ensures c.in-Ok.is sized c.store.ensures.0 c.store.ensures.1
    (omega arith) (read-wait c.store.new.ws _ (c.loop-ends.waiting - 1) sized c.wait_of-next.ensures) (omega (arith, paid.0)) paid.1

pub returns-then-waiting-room : goal.returns-then-waiting-room
returns-then-waiting-room c =
    let paid = c.in_ok-pay.ensures in
    settled-out _ _ _ _ _ _ _ c.loop-ends.invariant c.attempt-trial.ensures (omega (arith, paid.0)) paid.1

pub put_wait-requires : goal.put_wait-requires
put_wait-requires c =
    let h = c.requires in
    may-put _ _ _ _ _ _ _ c.loop-ends.invariant h.searching.given h.searching.room h.sized (λ e. omega arith)

pub overflow_add-waiting : goal.overflow_add-waiting
overflow_add-waiting c =
    omega (arith, waiting-small _ _ _ _ _ _ _ c.loop-ends.invariant c.requires.searching.given c.requires.sized)

pub loop-ends-preserved : goal.loop-ends-preserved
loop-ends-preserved c =
    let h = c.requires in
    let paid = c.in_ok-pay.ensures in
    let more = room-left _ _ _ _ _ _ _ c.loop-ends.invariant h.sized (λ e. omega arith) in
    let needs : c.in-Err-Needs.field-0 ≡ Needs c.in-Err-Needs.needed = rw c.in-Err-Needs.is at c.in-Err-Needs.field-0-is in
    settling-on _ _ _ _ _ _ _ c.loop-ends.invariant c.attempt-trial.ensures (rw needs at c.in-Err-Needs.is) h.sized
    (omega (arith, h.searching.given.ready.fits.few)) h.searching.room more c.put_wait.ensures (omega (arith, paid.0)) paid.1

pub returns-in-Err-Out : goal.returns-in-Err-Out
returns-in-Err-Out c =
    let paid = c.in_ok-pay.ensures in
    settled-out _ _ _ _ _ _ _ c.loop-ends.invariant c.attempt-trial.ensures (omega (arith, paid.0)) paid.1
