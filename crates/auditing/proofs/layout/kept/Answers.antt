-- The goals of `auditing::layout::kept` that are not found.
use mathlib.Core.Bool.{not}
use mathlib.Core.Path.{ap}
use native.Mathlib.Omega.{arith}
use Rattle.base.proofs.AllLaws.{all-next, all-fails, all_done}
use Rattle.auditing.proofs.KeptSteps.{kept_by, unfit, fit, first, below, above, exact-fit, fit_next}
use Rattle.auditing.proofs.layout.kept.Goals.{else-follows-via-then-follows+else-not-precedes, else-follows-via-else-follows}
use Rattle.auditing.proofs.layout.kept.Goals as goal

pub loop-k-init : goal.loop-k-init
loop-k-init c = (kept_by _ _ (omega (arith, c.requires)) (λ i. (c.type_inv.words i).fits), λ j l. absurd (omega arith))

pub returns-then-not-fits : goal.returns-then-not-fits
returns-then-not-fits c =
    all-fails _ _ _ (omega arith) (unfit _ _ c.member-c.ensures c.fits.ensures (ap not c.if-not-fits.true)) c.loop-k.invariant.0

pub precedes-requires : goal.precedes-requires
precedes-requires c = (
  exact-fit _ _ c.member.ensures (c.loop-k.invariant.1 _ (omega arith)),
  exact-fit _ _ c.member-c.ensures (fit _ _ c.member-c.ensures c.fits.ensures (ap not c.if-not-fits.false)),
)

pub returns-then-not-precedes : goal.returns-then-not-precedes
returns-then-not-precedes c =
    all-fails _ _ _ (omega arith) (below _ _ c.member-c.ensures c.fits.ensures (ap not c.if-not-fits.false) (omega arith)
    c.member.ensures c.precedes.ensures (ap not c.if-not-precedes.true)) c.loop-k.invariant.0

pub loop-k-preserved : goal.loop-k-preserved
loop-k-preserved c =
    let fits = c.fits.ensures in
    let here = ap not c.if-not-fits.false in (
      all-next _ _ _ (omega arith) (elim c.else-follows.branch [
        | else-follows-via-then-follows+else-not-precedes w ↦
            above _ _ c.member-c.ensures fits here (omega arith) w.member.ensures w.precedes.ensures (ap not w.if-not-precedes.false)
        | else-follows-via-else-follows w ↦ first _ _ c.member-c.ensures fits here (omega arith)
      ]) c.loop-k.invariant.0,
      fit_next _ _ c.loop-k.invariant.1 (fit _ _ c.member-c.ensures fits here),
    )

pub returns : goal.returns
returns c = all_done _ _ _ (omega arith) c.loop-k.invariant.0
