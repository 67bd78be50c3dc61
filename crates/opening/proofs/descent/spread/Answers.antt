-- The goals of `opening::descent::spread` that are not found.
use Rattle.base.proofs.Booleans.{true→T}
use mathlib.Core.Path.{refl}
use native.Mathlib.Omega.{arith}
use Rattle.std.proofs.lemmas.Result.{err_from_is_err_and}
use Rattle.opening.proofs.ScatterLaws.{spread-begins, spread-some, spread-room, spread-met, spread-lowest}
use Rattle.opening.proofs.ScatterLaws.{spread-next, spread-out}
use Rattle.opening.proofs.descent.spread.Goals as goal

pub loop-x-init : goal.loop-x-init
loop-x-init c = spread-begins c.requires

pub overflow_sub-k : goal.overflow_sub-k
overflow_sub-k c = spread-some c.requires c.loop-x.invariant

pub among-requires : goal.among-requires
among-requires c =
    let h = spread-some c.requires c.loop-x.invariant in
    spread-room c.requires c.loop-x.invariant c.spread.ensures.worked (omega (arith, h))

pub returns-then-among : goal.returns-then-among
returns-then-among c =
    let h = spread-some c.requires c.loop-x.invariant in
    let paid = c.in_ok-pay.ensures in
    spread-met c.requires c.loop-x.invariant c.in_ok-x.ensures (omega (arith, paid.0)) paid.1 (omega (arith, h))
    (true→T _ (rw c.among.ensures at c.if-among.true))

pub has-requires : goal.has-requires
has-requires c = omega (arith, c.requires.stacked.searching.given.short)

pub returns-then-k-eq0 : goal.returns-then-k-eq0
returns-then-k-eq0 c =
    let h = spread-some c.requires c.loop-x.invariant in
    let paid = c.in_ok-pay.ensures in
    spread-lowest c.requires c.loop-x.invariant c.in_ok-x.ensures (omega (arith, paid.0)) paid.1 (omega (arith, h, c.if-k-eq0.true)) refl c.has.ensures

pub return_place-q-requires : goal.return_place-q-requires
return_place-q-requires c =
    let h = spread-some c.requires c.loop-x.invariant in
    spread-room c.requires c.loop-x.invariant c.spread.ensures.worked (omega (arith, h))

pub loop-x-smaller : goal.loop-x-smaller
loop-x-smaller c = let h = spread-some c.requires c.loop-x.invariant in omega (arith, h)

pub loop-x-preserved : goal.loop-x-preserved
loop-x-preserved c =
    let h = spread-some c.requires c.loop-x.invariant in
    let paid = c.in_ok-pay.ensures in
    spread-next c.requires c.loop-x.invariant c.in_ok-x.ensures (omega (arith, paid.0)) paid.1 (omega (arith, h))
    (λ z. absurd (omega (arith, c.if-k-eq0.false))) c.return_place-q.ensures

pub returns-in_err-x : goal.returns-in_err-x
returns-in_err-x c =
    let p = err_from_is_err_and c.from_residual.result c.from_residual.ensures.1 in
    rw p.1 (spread-out c.requires c.loop-x.invariant c.spread.ensures.worked (omega arith))

pub returns-in_err-pay : goal.returns-in_err-pay
returns-in_err-pay c =
    let kept = c.in_err-pay.ensures.1 in
    let p = err_from_is_err_and c.from_residual-in_err-pay.result c.from_residual-in_err-pay.ensures.1 in
    rw p.1 (spread-out c.requires c.loop-x.invariant c.spread.ensures.worked (rw kept (omega arith)))
