-- `words::beginning::has_sizes` meets its contract: each of the three words is compared, and the first that differs decides.
use Rattle.words.proofs.SizeLaws.{sizes-short, sizes-first, sizes-second, sizes-third}
use Rattle.base.proofs.Booleans.{clash}
use mathlib.Core.Path.{◌∙◌, sym}
use lib.ListN.{length}
use borrow.Author.Tests.{leb-true}
use native.Mathlib.Omega.{arith}
use Rattle.words.proofs.beginning.has_sizes.Goals.{then-n-ge-HELD_AT, else-n-ge-HELD_AT, then-cache-low, else-cache-low}
use Rattle.words.proofs.beginning.has_sizes.Goals as goal

pub returns-then-cache-high : goal.returns-then-cache-high
returns-then-cache-high c = elim c.if-cache-low.branch [
  | then-cache-low w ↦ elim c.if-n-ge-HELD_AT.branch [
    | then-n-ge-HELD_AT v ↦
        sizes-third _ _ v.if-n-ge-HELD_AT.true v.low.ensures v.value-is w.high.ensures w.value-is w.if-cache-low.true c.if-cache-high.true
        c.number.ensures
    | else-n-ge-HELD_AT v ↦ absurd (omega (arith, leb-true 4 (length c.args.cache.now) (sym v.value-is ∙ w.if-cache-low.true), v.if-n-ge-HELD_AT.false))
  ]
  | else-cache-low w ↦ clash (let h = c.if-cache-high.true in let g = w.value-is in let f = w.if-cache-low.false in cc)
]

pub returns-else-cache-high : goal.returns-else-cache-high
returns-else-cache-high c = c.if-cache-high.false ∙ elim c.if-cache-low.branch [
  | then-cache-low w ↦ elim c.if-n-ge-HELD_AT.branch [
    | then-n-ge-HELD_AT v ↦
        sizes-second _ _ v.if-n-ge-HELD_AT.true v.low.ensures v.value-is w.high.ensures w.value-is w.if-cache-low.true c.if-cache-high.false
    | else-n-ge-HELD_AT v ↦ sizes-short _ _ v.if-n-ge-HELD_AT.false
  ]
  | else-cache-low w ↦ elim c.if-n-ge-HELD_AT.branch [
    | then-n-ge-HELD_AT v ↦ sizes-first _ _ v.if-n-ge-HELD_AT.true v.low.ensures v.value-is w.if-cache-low.false
    | else-n-ge-HELD_AT v ↦ sizes-short _ _ v.if-n-ge-HELD_AT.false
  ]
]
