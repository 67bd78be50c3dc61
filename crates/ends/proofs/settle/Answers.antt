-- The goals of `ends::settle` that are not found.
use mathlib.Core.Path.{◌≡◌, ap}
use mathlib.Core.List.{List}
use native.Mathlib.Omega.{arith}
use Prim.Native.Nat.{ℕ, ◌<◌}
use lib.ListN.{length, get_or, take, length-take}
use Rattle.std.proofs.lemmas.List.{get_or-take}
use Rattle.ends.proofs.LookLaws.{sound_none}
use Rattle.ends.proofs.JudgedLaws.{judged-none, judged-on, judged-all}
use Rattle.ends.proofs.settle.Goals as goal

pub nonterminals-requires : goal.nonterminals-requires
nonterminals-requires c = c.requires.row.ready.fits.long

pub loop-a-init : goal.loop-a-init
loop-a-init c =
    let row = c.requires.row in
    let empty = c.requires.empty in
    (ap length empty, judged-none _ _ _ _ row _ _ (rw empty (sound_none _ _ _ row.ready.fits.few)))

-- what stands in a front part of the order stands there in the order, whichever part is gone through
in-part : (m : ℕ) (order : List ℕ) (k : ℕ) → k < length (take m order) → get_or (take m order) k 0 ≡ get_or order k 0
in-part m order k l = get_or-take m order k 0 (omega (arith, length-take m order))

pub look-requires : goal.look-requires
look-requires c =
    record {
      row = c.requires.row;
      long = c.loop-a.invariant.0;
      named = omega (
        arith,
        in-part _ _ _ c.loop-a-test.true,
        c.requires.lined.lined.named c.loop-a.a-index (omega (arith, c.nonterminals.ensures, length-take {A = ℕ})),
      );
    }

pub loop-a-preserved : goal.loop-a-preserved
loop-a-preserved c = (
  omega (arith, c.loop-a.invariant.0),
  judged-on _ _ _ _ c.requires.row _ c.requires.lined _ _ _ (omega (arith, c.nonterminals.ensures, length-take {A = ℕ})) c.loop-a.invariant.1
      (in-part _ _ _ c.loop-a-test.true) c.look.ensures,
)

pub shape_of-ends : goal.shape_of-ends
shape_of-ends c = omega (arith, c.loop-a.invariant.0, ap length c.requires.empty)

pub returns : goal.returns
returns c =
    judged-all _ _ _ _ c.requires.row _ c.requires.lined _ _
    (omega (arith, c.nonterminals.ensures, c.requires.lined.room, length-take {A = ℕ}, c.loop-a-test.false)) c.loop-a.invariant.1
