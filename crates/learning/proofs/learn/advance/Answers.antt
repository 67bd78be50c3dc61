-- The goals of `learning::learn::advance` that are not found.
use mathlib.Core.Path.{refl}
use native.Mathlib.Omega.{arith}
use Rattle.configurations.proofs.GrowSteps.{left_by, left-on, left-stop, left-none}
use Rattle.learning.proofs.StartLaws.{blank-left}
use Rattle.learning.proofs.AdvanceLaws.{passes-in, stepping-all, stepping-has, stepping-on, stepping-by, stepping-none}
use Rattle.learning.proofs.learn.advance.Goals.{then-passes+in_ok-n, else-passes}
use Rattle.learning.proofs.learn.advance.Goals as goal

pub loop-j-init : goal.loop-j-init
loop-j-init c = blank-left _ c.requires.1 (stepping-all _ _ _)

pub member-c-requires : goal.member-c-requires
member-c-requires c = stepping-has c.args.tables.now c.args.t c.args.configs.now _ refl c.loop-j-test.true

pub passes-requires : goal.passes-requires
passes-requires c = c.requires.0.fits.long

pub pass-requires : goal.pass-requires
pass-requires c = (c.loop-j.invariant.room, passes-in _ _ _ c.passes.ensures c.if-passes.true)

pub returns-in_err-n : goal.returns-in_err-n
returns-in_err-n c =
    let first = stepping-on _ _ _ _ refl c.loop-j-test.true c.member-c.ensures c.passes.ensures c.if-passes.true in
    rw c.from_residual.ensures (left-stop c.loop-j.invariant first c.pass.ensures c.in_err-n.was)

pub loop-j-preserved : goal.loop-j-preserved
loop-j-preserved c = elim c.if-passes.branch [
  | then-passes+in_ok-n w ↦
      let first = stepping-on _ _ _ _ refl c.loop-j-test.true c.member-c.ensures c.passes.ensures w.if-passes.true in
      rw (w.members-is, w.n-is) (left-on c.loop-j.invariant first w.pass.ensures _ w.in_ok-n.was)
  | else-passes w ↦
      rw (w.members-is, w.n-is)
      (left_by c.loop-j.invariant (stepping-by _ _ _ _ refl c.loop-j-test.true c.member-c.ensures c.passes.ensures w.if-passes.false))
]

pub returns : goal.returns
returns c = left-none c.loop-j.invariant (stepping-none _ _ _ _ refl (omega arith))
