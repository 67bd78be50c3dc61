-- The goals of `reach::pass` that are not found.
use Prim.Native.Nat.{◌<◌}
use lib.ListN.{length}
use Rattle.grammar.specs.inside.Tables.{grammar_in}
use Rattle.positions.specs.inside.Positions.{position_count}
use native.Mathlib.Omega.{arith}
use Rattle.derivation.proofs.ReadyLaws.{ready-size}
use mathlib.Core.Path.{refl, ◌∙◌}
use Rattle.reach.proofs.PassLaws.{holds-stands, pass-begin, pass-out, pass-on, pass-before, pass-end, stepped-more}
use Rattle.reach.proofs.pass.Goals as goal
use Rattle.reach.proofs.pass.Goals.{then-holds+then-not-has_place, else-holds, else-holds-via-then-holds+else-not-has_place, else-holds-via-else-holds}

pub size-p-end-requires : goal.size-p-end-requires
size-p-end-requires c = c.requires.0.given.ready.fits.long

pub loop-p-init : goal.loop-p-init
loop-p-init c = (refl, pass-begin _ _ _ _, c.requires.1)

pub overflow_mul-p : goal.overflow_mul-p
overflow_mul-p c = omega (arith, ready-size _ c.requires.0.given.ready, c.size-p-end.ensures)

pub holds-requires : goal.holds-requires
holds-requires c =
    let start = c.requires.0 in
    (omega (arith, ready-size _ start.given.ready, c.size-p-end.ensures, start.long), omega (arith, start.given.lent.short, start.here))

pub step-grown-requires : goal.step-grown-requires
step-grown-requires c =
    let start = c.requires.0 in (
      record { given = start.given; here = start.here; long = c.loop-p.invariant.0 ∙ start.long },
      omega (arith, c.loop-p-test.true, c.size-p-end.ensures),
    )

pub has_place-requires : goal.has_place-requires
has_place-requires c = (c.loop-p.invariant.2.long, omega (arith, ready-size _ c.requires.0.given.ready, c.size-p-end.ensures))

pub put_place-requires : goal.put_place-requires
put_place-requires c = (c.loop-p.invariant.2.long, omega (arith, ready-size _ c.requires.0.given.ready, c.size-p-end.ensures))

pub loop-p-preserved : goal.loop-p-preserved
loop-p-preserved c =
    let given = c.requires.0.given in
    let short : length c.args.note.now < position_count = omega (arith, given.lent.short) in
    let within : c.loop-p.p < (grammar_in c.args.tables.now).size = omega (arith, c.loop-p-test.true, c.size-p-end.ensures) in
    let here = c.requires.0.here in
    let inv = c.loop-p.invariant in
    let stands = holds-stands _ _ _ c.holds.ensures in
    elim c.if-holds.branch [
      | then-holds+then-not-has_place w ↦ rw (w.sets-is, w.stepped-is, w.grown-is) (
        w.step-grown.auto.sets ∙ inv.0,
        pass-on _ _ _ _ given.ready short within here inv.1 stands w.if-holds.true w.step-grown.ensures,
        stepped-more _ _ _ _ given.ready short here (omega (arith, within, ready-size _ given.ready)) w.put_place.ensures inv.2 w.step-grown.ensures,
      )
      | else-holds w ↦ rw (w.sets-is, w.stepped-is, w.grown-is) (
        inv.0,
        elim w.else-holds.branch [
          | else-holds-via-then-holds+else-not-has_place v ↦
              pass-before _ _ _ _ given.ready short within here inv.1 stands _ inv.2 v.has_place.ensures v.if-not-has_place.false
          | else-holds-via-else-holds v ↦ pass-out _ _ _ _ given.ready short within here inv.1 stands v.if-holds.false
        ],
        inv.2,
      )
    ]

pub shape_of-stepped : goal.shape_of-stepped
shape_of-stepped c = omega (arith, c.loop-p.invariant.2.long, c.requires.1.long)

pub returns : goal.returns
returns c = pass-end _ _ _ _ c.size-p-end.ensures (omega arith) c.loop-p.invariant.1 c.loop-p.invariant.2
