-- The goals of `reach::wrong_place` that are not found.
use mathlib.Core.Path.{refl}
use Prim.Native.Nat.{ℕ}
use native.Mathlib.Omega.{arith}
use lib.ListN.{length-replicate}
use Rattle.derivation.proofs.ReadyLaws.{ready-size}
use Rattle.reach.specs.inside.Sets.{sets_words}
use Rattle.reach.proofs.EnterLaws.{start-known}
use Rattle.reach.proofs.FoundLaws.{found-begin, found-next, found_all}
use Rattle.reach.proofs.LastLaws.{wrong-is}
use Rattle.reach.proofs.wrong_place.Goals as goal

pub enter-entered-requires : goal.enter-entered-requires
enter-entered-requires c =
    record { ready = c.requires.ready; named = start-known _ c.requires.ready; position = omega arith; long = length-replicate {A = ℕ} sets_words 0 }

pub loop-i-init : goal.loop-i-init
loop-i-init c = (
  omega arith,
  omega (arith, c.enter-entered.auto.sets, length-replicate {A = ℕ} sets_words 0),
  found-begin _ _ c.requires.ready (omega (arith, c.requires.lent.short)) sets_words refl c.enter-entered.ensures,
)

pub settle-requires : goal.settle-requires
settle-requires c = record { given = c.requires; here = omega arith; long = c.loop-i.invariant.1 }

pub loop-i-preserved : goal.loop-i-preserved
loop-i-preserved c = (
  omega arith,
  omega (arith, c.settle.auto.sets),
  found-next _ _ c.requires.ready (omega (arith, c.requires.lent.short)) _ (omega arith) c.loop-i.invariant.2 c.settle.ensures,
)

pub size-requires : goal.size-requires
size-requires c = c.requires.ready.fits.long

pub anywhere-all-requires : goal.anywhere-all-requires
anywhere-all-requires c = (omega (arith, c.size.ensures, ready-size _ c.requires.ready), c.loop-i.invariant.1)

pub highest-requires : goal.highest-requires
highest-requires c = omega (arith, c.requires.lent.short)

pub returns : goal.returns
returns c =
    wrong-is _ _ _ c.highest.ensures
    (found_all _ _ c.requires.ready (omega (arith, c.requires.lent.short)) _ (omega arith) c.loop-i.invariant.2 _ c.size.ensures
    c.anywhere-all.ensures)
