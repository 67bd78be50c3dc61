-- The goals of `opening::descent::descend` that are not found.
use Rattle.base.proofs.Booleans.{true→T}
use mathlib.Core.Path.{refl}
use native.Mathlib.Omega.{arith}
use Rattle.std.proofs.lemmas.Result.{err_from_is_err_and}
use Rattle.opening.proofs.DescentLaws.{down-begins, down-go, down-led, down-nowhere, down-set, spread-may, spread-did}
use Rattle.opening.proofs.DescentLaws.{down-some, down-room, frame-kept, frame-met, frame-lowest, frame-next, down_out}
use Rattle.opening.proofs.descent.descend.Goals as goal

pub loop-way-init : goal.loop-way-init
loop-way-init c = down-begins c.requires

pub lead-requires : goal.lead-requires
lead-requires c = down-go c.requires c.loop-way.invariant

pub overflow_sub-k : goal.overflow_sub-k
overflow_sub-k c = down-some c.requires c.loop-way.invariant

pub returns-in-Nowhere : goal.returns-in-Nowhere
returns-in-Nowhere c =
    let paid = c.in_ok-pay.ensures in
    let led = c.in_ok-way.ensures in
    down-nowhere c.requires (down-led c.requires c.loop-way.invariant led (omega (arith, paid.0)) paid.1) (rw c.in-Nowhere.is at led.there.went)

pub set_of-x-requires : goal.set_of-x-requires
set_of-x-requires c =
    let paid = c.in_ok-pay.ensures in
    let led = c.in_ok-way.ensures in
    down-set c.requires {at = c.pay.new.self} (down-led c.requires c.loop-way.invariant led (omega (arith, paid.0)) paid.1)
    (rw c.in-Several.is at led.there.went)

pub spread-requires : goal.spread-requires
spread-requires c =
    let paid = c.in_ok-pay.ensures in
    let led = c.in_ok-way.ensures in
    spread-may c.requires {at = c.pay.new.self} (down-led c.requires c.loop-way.invariant led (omega (arith, paid.0)) paid.1)
    (rw c.in-Several.is at led.there.went)
    c.set_of-x.ensures

pub returns-in-Several : goal.returns-in-Several
returns-in-Several c =
    let paid = c.in_ok-pay.ensures in
    let led = c.in_ok-way.ensures in
    spread-did c.requires (down-led c.requires c.loop-way.invariant led (omega (arith, paid.0)) paid.1) (rw c.in-Several.is at led.there.went)
    c.set_of-x.ensures c.spread.ensures

pub meets-requires : goal.meets-requires
meets-requires c =
    let h = down-some c.requires c.loop-way.invariant in
    let paid = c.in_ok-pay.ensures in
    let led = c.in_ok-way.ensures in
    down-room c.requires {at = c.pay.new.self} (down-led c.requires c.loop-way.invariant led (omega (arith, paid.0)) paid.1) (rw c.in-Ends.is at led.there.went)
    (omega (arith, h))

pub returns-then-meets : goal.returns-then-meets
returns-then-meets c =
    let h = down-some c.requires c.loop-way.invariant in
    let paid = c.in_ok-pay.ensures in
    let led = c.in_ok-way.ensures in
    frame-met c.requires (down-led c.requires c.loop-way.invariant led (omega (arith, paid.0)) paid.1) (rw c.in-Ends.is at led.there.went)
    (omega (arith, h)) c.meets.ensures.1 (true→T _ (rw c.meets.ensures.0 at c.if-meets.true))

pub returns-then-k-eq0 : goal.returns-then-k-eq0
returns-then-k-eq0 c =
    let h = down-some c.requires c.loop-way.invariant in
    let paid = c.in_ok-pay.ensures in
    let led = c.in_ok-way.ensures in
    frame-lowest c.requires (down-led c.requires c.loop-way.invariant led (omega (arith, paid.0)) paid.1) (rw c.in-Ends.is at led.there.went)
    (omega (arith, h)) c.meets.ensures.1 (omega (arith, c.if-k-eq0.true)) refl

pub return_place-p-requires : goal.return_place-p-requires
return_place-p-requires c =
    let h = down-some c.requires c.loop-way.invariant in
    let paid = c.in_ok-pay.ensures in
    let led = c.in_ok-way.ensures in
    let k = (frame-kept c.requires {at = c.pay.new.self} (down-led c.requires c.loop-way.invariant led (omega (arith, paid.0)) paid.1)
    (rw c.in-Ends.is at led.there.went)
    (omega (arith, h)) c.meets.ensures.1).long in
    omega (arith, k, h, c.requires.stacked.room, c.loop-way.invariant.low)

pub loop-way-smaller : goal.loop-way-smaller
loop-way-smaller c = let h = down-some c.requires c.loop-way.invariant in omega (arith, h)

pub loop-way-preserved : goal.loop-way-preserved
loop-way-preserved c =
    let h = down-some c.requires c.loop-way.invariant in
    let paid = c.in_ok-pay.ensures in
    let led = c.in_ok-way.ensures in
    frame-next c.requires (down-led c.requires c.loop-way.invariant led (omega (arith, paid.0)) paid.1) (rw c.in-Ends.is at led.there.went)
    (omega (arith, h)) c.meets.ensures.1 (λ z. absurd (omega (arith, c.if-k-eq0.false))) c.return_place-p.ensures

pub returns-in_err-way : goal.returns-in_err-way
returns-in_err-way c =
    let p = err_from_is_err_and c.from_residual.result c.from_residual.ensures.1 in
    rw p.1 (down_out c.requires c.loop-way.invariant c.lead.ensures.worked (omega arith))

pub returns-in_err-pay : goal.returns-in_err-pay
returns-in_err-pay c =
    let kept = c.in_err-pay.ensures.1 in
    let p = err_from_is_err_and c.from_residual-in_err-pay.result c.from_residual-in_err-pay.ensures.1 in
    rw p.1 (down_out c.requires c.loop-way.invariant c.lead.ensures.worked (rw kept (omega arith)))

pub returns-in-Needs : goal.returns-in-Needs
returns-in-Needs c =
    let paid = c.in_ok-pay.ensures in
    down_out c.requires c.loop-way.invariant c.lead.ensures.worked (omega (arith, paid.0))
