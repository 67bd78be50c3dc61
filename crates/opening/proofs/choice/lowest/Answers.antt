-- The goals of `opening::choice::lowest` that are not found.
use mathlib.Core.Path.{◌≡◌, refl, ap}
use mathlib.Core.List.{List}
use Prim.Native.Nat.{ℕ}
use native.Mathlib.Numerals.{add-one}
use native.Mathlib.Omega.{arith}
use lib.ListN.{length, get_or}
use borrow.Author.Rules.{rules}
use Rattle.opening.proofs.ChoiceLaws.{trying-begins, trying-descends, trying-out, trying-found, trying-on, trying-ends}
use Rattle.opening.proofs.choice.lowest.Goals as goal

pub loop-k-init : goal.loop-k-init
loop-k-init c = trying-begins _ _ _ _ _ _ _ _ _ _ c.requires

pub descend-descent-requires : goal.descend-descent-requires
descend-descent-requires c =
    let f : c.from-first.result ≡ get_or c.first_places-f-items.result.now c.loop-k.k 0 = search rules in
    trying-descends _ _ _ _ _ _ _ _ _ _ c.requires c.loop-k.invariant c.first_places-f-items.ensures c.loop-k-test.true f

pub returns-in_default : goal.returns-in_default
returns-in_default c =
    let f : c.from-first.result ≡ get_or c.first_places-f-items.result.now c.loop-k.k 0 = search rules in
    trying-out _ _ _ _ _ _ _ _ _ _ c.requires c.loop-k.invariant c.first_places-f-items.ensures c.loop-k-test.true f
    c.descend-descent.ensures refl

pub returns-then-at-eq0 : goal.returns-then-at-eq0
returns-then-at-eq0 c =
    let f : c.from-first.result ≡ get_or c.first_places-f-items.result.now c.loop-k.k 0 = search rules in
    trying-out _ _ _ _ _ _ _ _ _ _ c.requires c.loop-k.invariant c.first_places-f-items.ensures c.loop-k-test.true f
    c.descend-descent.ensures (omega arith)

pub returns-then-down : goal.returns-then-down
returns-then-down c =
    let f : c.from-first.result ≡ get_or c.first_places-f-items.result.now c.loop-k.k 0 = search rules in
    trying-found _ _ _ _ _ _ _ _ _ _ c.requires c.loop-k.invariant c.first_places-f-items.ensures c.loop-k-test.true f
    c.in-Ok.ensures c.if-down.true c.stand.ensures

pub loop-k-preserved : goal.loop-k-preserved
loop-k-preserved c =
    let f : c.from-first.result ≡ get_or c.first_places-f-items.result.now c.loop-k.k 0 = search rules in
    rw add-one (trying-on _ _ _ _ _ _ _ _ _ _ c.requires c.loop-k.invariant c.first_places-f-items.ensures c.loop-k-test.true f
    c.in-Ok.ensures c.if-down.false)

pub returns : goal.returns
returns c =
    trying-ends _ _ _ _ _ _ _ _ _ _ c.requires c.loop-k.invariant
    (omega (arith, ap (λ (l : List ℕ). length l) c.first_places-f-items.ensures, c.loop-k-test.false))
