-- The goals of `batch::reading::read_all` that are not found.
use mathlib.Core.Path.{refl, sym}
use native.Mathlib.Omega.{arith}
use lib.Seq.{length-sets}
use Rattle.batch.proofs.TurnLaws.{underway-first, note-fits, part-fits, underway-next, underway-last}
use Rattle.batch.proofs.reading.read_all.Goals as goal

pub loop-k-init : goal.loop-k-init
loop-k-init c =
    let fits = c.requires.fits in (
      record {
        underway = underway-first _ _ _ _ _ _ _ _ fits.adds-up (sym fits.even);
        within = omega arith;
        answers-kept = refl;
        row_kept = refl;
        cache-kept = refl;
      },
      refl,
    )

pub overflow_add-to : goal.overflow_add-to
overflow_add-to c = omega (arith, note-fits _ _ _ _ _ c.loop-k.invariant.0.underway (omega arith), c.from.ensures)

pub slice_bounds-read-end : goal.slice_bounds-read-end
slice_bounds-read-end c = omega (arith, note-fits _ _ _ _ _ c.loop-k.invariant.0.underway (omega arith), c.from.ensures)

pub overflow_add-at : goal.overflow_add-at
overflow_add-at c = omega (arith, part-fits _ _ _ _ _ c.loop-k.invariant.0.underway (omega arith))

pub slice_bounds-read-end-in-loop-k : goal.slice_bounds-read-end-in-loop-k
slice_bounds-read-end-in-loop-k c = omega (arith, part-fits _ _ _ _ _ c.loop-k.invariant.0.underway (omega arith))

pub read-reading-requires : goal.read-reading-requires
read-reading-requires c = (c.requires.ready, λ e. omega (arith, c.requires.long e, c.loop-k.invariant.0.cache-kept))

pub tell-requires : goal.tell-requires
tell-requires c = omega (arith, c.loop-k-test.true, c.requires.fits.three, c.loop-k.invariant.0.answers-kept)

pub overflow_add-at-in-loop-k : goal.overflow_add-at-in-loop-k
overflow_add-at-in-loop-k c = omega (arith, part-fits _ _ _ _ _ c.loop-k.invariant.0.underway (omega arith))

pub loop-k-preserved : goal.loop-k-preserved
loop-k-preserved c =
    let kept = c.loop-k.invariant.0 in (
      record {
        underway = underway-next _ _ _ _ _ kept.underway c.loop-k-test.true c.read-reading.result _ _ c.from.ensures
            c.loop-k.invariant.1 (omega (arith, c.row-1.given.0, c.read-arg-in-loop-k-1.given.2))
            (omega (arith, c.requires.fits.three, kept.answers-kept)) c.read-reading.ensures c.tell.ensures;
        within = omega (arith, c.loop-k-test.true);
        answers-kept = rw (c.tell.ensures, length-sets) kept.answers-kept;
        row_kept = omega (arith, c.row-1.given.1, kept.row_kept);
        cache-kept = omega (arith, c.cache-1.given, kept.cache-kept);
      },
      omega (arith, c.ws-1.given, c.loop-k.invariant.1),
    )

pub returns : goal.returns
returns c =
    let kept = c.loop-k.invariant.0 in
    underway-last _ _ _ _ _ kept.underway (omega arith) kept.within (omega (arith, c.requires.fits.three, kept.answers-kept))
