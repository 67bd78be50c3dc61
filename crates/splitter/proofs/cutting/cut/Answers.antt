-- The goals of `splitter::cutting::cut` that are not found.
use mathlib.Core.Path.{refl}
use native.Mathlib.Omega.{arith}
use lib.ListN.{length-set}
use Rattle.splitter.specs.inside.Cut.{CutDid}
use Rattle.splitter.proofs.ItemLaws.{cut-begins, cut-ends, cut-blank, cut-many, cut-item, cut-less}
use Rattle.splitter.proofs.cutting.cut.Goals as goal

pub loop-i-init : goal.loop-i-init
loop-i-init c = (cut-begins _ _ _, c.requires.0, omega arith)

pub loop-i-preserved-then-class-eq-BLANK : goal.loop-i-preserved-then-class-eq-BLANK
loop-i-preserved-then-class-eq-BLANK c =
    let inv = c.loop-i.invariant in
    (cut-blank _ _ _ _ _ inv.0 (omega arith) refl c.class.ensures c.if-class-eq-BLANK.true, inv.1, inv.2)

pub returns-then-k-ge-MAX_TOKENS : goal.returns-then-k-ge-MAX_TOKENS
unfolding CutDid
returns-then-k-ge-MAX_TOKENS c =
    let inv = c.loop-i.invariant in
    (cut-many _ _ _ _ _ inv.0 (omega arith) refl c.class.ensures c.if-class-eq-BLANK.false (omega arith) inv.1, inv.1)

pub item_at-item-requires : goal.item_at-item-requires
item_at-item-requires c = (omega arith, c.requires.1)

pub loop-i-smaller : goal.loop-i-smaller
loop-i-smaller c =
    let inv = c.loop-i.invariant in
    omega (arith, cut-less _ _ _ _ _ inv.0 (omega arith) refl c.class.ensures c.if-class-eq-BLANK.false c.item_at-item.ensures)

pub loop-i-preserved : goal.loop-i-preserved
loop-i-preserved c =
    let inv = c.loop-i.invariant in (
      cut-item _ _ _ _ _ inv.0 (omega arith) refl c.class.ensures c.if-class-eq-BLANK.false c.item_at-item.ensures (omega arith),
      simp length-set inv.1,
      omega arith,
    )

pub returns : goal.returns
unfolding CutDid
returns c =
    let inv = c.loop-i.invariant in
    (inv.2, cut-ends _ _ _ _ _ inv.0 (omega arith), inv.1)
