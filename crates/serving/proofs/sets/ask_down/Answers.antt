-- The goals of `serving::sets::ask_down` that are not found.
use mathlib.Core.Path.{refl}
use native.Mathlib.Omega.{arith}
use Rattle.cells.proofs.Spots.{lent-kept}
use Rattle.serving.proofs.AskLaws.{asking-begins, asking-place, asking-more, asking-ends}
use Rattle.serving.proofs.sets.ask_down.Goals as goal

pub loop-k-init : goal.loop-k-init
loop-k-init c = (c.requires.most, omega arith, refl, asking-begins _ _ _ _ _ _)

pub onward-s-requires : goal.onward-s-requires
onward-s-requires c = (
  lent-kept (omega arith) c.requires.lent,
  asking-place _ _ _ _ _ _ _ _ _ _ c.requires c.loop-k.invariant.3 (omega arith) (omega arith) c.put_rest.ensures
      c.return_place-q.ensures,
)

pub loop-k-preserved : goal.loop-k-preserved
loop-k-preserved c = (
  omega arith,
  omega arith,
  omega arith,
  asking-more _ _ _ _ _ _ _ _ _ _ c.requires c.loop-k.invariant.3 (omega arith) (omega arith) c.put_rest.ensures
      c.return_place-q.ensures _ _ c.onward-s.ensures,
)

pub returns : goal.returns
returns c = asking-ends _ _ _ _ _ _ _ _ c.loop-k.invariant.3 (omega arith)
