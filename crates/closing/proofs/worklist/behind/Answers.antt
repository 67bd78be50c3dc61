-- The goals of `closing::worklist::behind` that are not found.
use mathlib.Core.Path.{ap}
use native.Mathlib.Omega.{arith}
use Rattle.derivation.proofs.ReadyLaws.{ready-size}
use Rattle.lookahead.specs.Closing.{add_all}
use Rattle.configurations.proofs.GrowSteps.{grow-packs, left_by, left-on, left-stop, left-none}
use Rattle.closing.proofs.FollowLaws.{at-empty, behinds-all, behinds-hit, behinds-miss, behinds-none, sought-within, behinds-sought}
use Rattle.closing.proofs.worklist.behind.Goals as goal

pub size-size-requires : goal.size-size-requires
size-size-requires c = c.requires.0.ready.fits.long

pub loop-p-init : goal.loop-p-init
loop-p-init c = (omega arith, record { room = c.requires.0.room; same = ap (add_all _) (behinds-all _ _ _) })

pub seek-here-requires : goal.seek-here-requires
seek-here-requires c =
    let few = ready-size _ c.requires.0.ready in
    record { ready = c.requires.0.ready; from = c.loop-p.invariant.0; few = omega (arith, c.size-size.ensures); small = c.requires.1.small }

pub returns-then-here-size : goal.returns-then-here-size
returns-then-here-size c =
    let few = ready-size _ c.requires.0.ready in
    let left = left_by c.loop-p.invariant.1 (behinds-sought _ _ _ _ _ _ c.seek-here.ensures) in
    left-none left
    (behinds-none _ c.requires.0.ready _ _ _ (omega (arith, c.size-size.ensures, c.if-here-size.true))
    (omega (arith, c.size-size.ensures, c.if-here-size.true)))

pub overflow_add-p : goal.overflow_add-p
overflow_add-p c =
    let few = ready-size _ c.requires.0.ready in
    omega (arith, c.seek-here.ensures.to, c.size-size.ensures)

pub calls-requires : goal.calls-requires
calls-requires c =
    let few = ready-size _ c.requires.0.ready in
    record {
      long = c.requires.0.ready.fits.long;
      within = omega (arith, c.seek-here.ensures.to, c.size-size.ensures);
      small = c.requires.1.small;
    }

pub at-requires : goal.at-requires
at-requires c =
    let small = sought-within _ c.requires.0.ready c.size-size.ensures c.seek-here.ensures c.if-here-size.false in
    (c.requires.0.exact, omega arith)

pub add-requires : goal.add-requires
add-requires c = (c.loop-p.invariant.1.room, c.at.ensures.exact)

pub returns-in_err-n : goal.returns-in_err-n
returns-in_err-n c =
    let small = sought-within _ c.requires.0.ready c.size-size.ensures c.seek-here.ensures c.if-here-size.false in
    let hit = behinds-hit _ c.requires.0.ready _ _ _ (omega arith) c.calls.ensures c.if-calls.true in
    let left = left_by c.loop-p.invariant.1 (behinds-sought _ _ _ _ _ _ c.seek-here.ensures) in
    rw c.from_residual.ensures
    (left-stop left hit (grow-packs _ (at-empty c.args.c c.requires.1.empty c.at.ensures) c.add.ensures) c.in_err-n.was)

pub loop-p-smaller-then-calls : goal.loop-p-smaller-then-calls
loop-p-smaller-then-calls c = omega (arith, c.seek-here.ensures.from, c.loop-p-test.true)

pub loop-p-preserved-then-calls : goal.loop-p-preserved-then-calls
loop-p-preserved-then-calls c =
    let small = sought-within _ c.requires.0.ready c.size-size.ensures c.seek-here.ensures c.if-here-size.false in
    let hit = behinds-hit _ c.requires.0.ready _ _ _ (omega arith) c.calls.ensures c.if-calls.true in
    let left = left_by c.loop-p.invariant.1 (behinds-sought _ _ _ _ _ _ c.seek-here.ensures) in (
      omega (arith, c.seek-here.ensures.to, c.if-here-size.false),
      left-on left hit
          (grow-packs _ (at-empty c.args.c c.requires.1.empty c.at.ensures) c.add.ensures) _ c.in_ok-n.was,
    )

pub loop-p-smaller : goal.loop-p-smaller
loop-p-smaller c = omega (arith, c.seek-here.ensures.from, c.loop-p-test.true)

pub loop-p-preserved : goal.loop-p-preserved
loop-p-preserved c =
    let small = sought-within _ c.requires.0.ready c.size-size.ensures c.seek-here.ensures c.if-here-size.false in
    let left = left_by c.loop-p.invariant.1 (behinds-sought _ _ _ _ _ _ c.seek-here.ensures) in (
      omega (arith, c.seek-here.ensures.to, c.if-here-size.false),
      left_by left (behinds-miss _ c.requires.0.ready _ _ _ (omega arith) c.calls.ensures c.if-calls.false),
    )

pub returns : goal.returns
returns c =
    let few = ready-size _ c.requires.0.ready in
    left-none c.loop-p.invariant.1
    (behinds-none _ c.requires.0.ready _ _ _ (omega (arith, c.size-size.ensures)) (omega (arith, c.size-size.ensures, c.loop-p-test.false)))
