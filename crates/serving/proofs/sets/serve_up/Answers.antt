-- The goals of `serving::sets::serve_up` that are not found.
use mathlib.Core.Path.{refl}
use native.Mathlib.Omega.{arith}
use Rattle.cells.proofs.Spots.{lent-kept}
use Rattle.serving.proofs.ServeLaws.{serving-begins, serving-place, serving-more, serving-ends}
use Rattle.serving.proofs.sets.serve_up.Goals as goal

pub loop-k-init : goal.loop-k-init
loop-k-init c = (omega arith, c.requires.most, refl, serving-begins _ _ _ _ _)

pub serving-r-requires : goal.serving-r-requires
serving-r-requires c = (
  lent-kept (omega arith) c.requires.lent,
  serving-place _ _ _ _ _ _ c.requires _ _ c.loop-k.invariant.3 c.loop-k.invariant.0 (omega arith) c.return_place-q.ensures,
)

pub loop-k-preserved : goal.loop-k-preserved
loop-k-preserved c = (
  omega arith,
  omega arith,
  omega arith,
  serving-more _ _ _ _ _ _ c.requires _ _ c.loop-k.invariant.3 c.loop-k.invariant.0 (omega arith) c.return_place-q.ensures _
      c.rest-asked.ensures c.rest-below.ensures c.serving-r.ensures c.put_rest.ensures,
)

pub returns : goal.returns
returns c = serving-ends _ _ _ _ _ _ c.loop-k.invariant.3 (omega arith)
