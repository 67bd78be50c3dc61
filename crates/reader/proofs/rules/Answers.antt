-- The goals of `reader::rules` that are not found.
use native.Mathlib.Omega.{arith}
use mathlib.Core.Path.{◌≡◌, refl}
use native.Mathlib.Nat.{sub-zero}
use lib.ListN.{length-set}
use Rattle.number.proofs.NumberLaws.{limited-is}
use Rattle.number.proofs.CountLaws.{limited-tallied}
use Rattle.reader.proofs.CountLaws.{productions-tallied}
use Rattle.reader.proofs.PassSteps.{rules-done, rules-refused, rules-piece, rules-more, productions-end}
use Rattle.reader.proofs.rules.Goals as goal

pub loop-a-init : goal.loop-a-init
loop-a-init c = (omega arith, omega arith, omega arith, refl, rw sub-zero refl, c.requires.1)

pub returns-in_default : goal.returns-in_default
returns-in_default c = rules-refused _ _ _ _ _ _ _ _ _ (omega arith) c.loop-a.invariant.4 c.limited-n.ensures c.in_default.is

pub productions-piece-requires : goal.productions-piece-requires
productions-piece-requires c = (
  record { kinds-most = omega arith; few = omega arith; room = omega arith; long = simp length-set (omega arith) },
  limited-tallied _ _ c.loop-a.invariant.5.1 _ _ c.limited-n.ensures c.in-Value.is,
  omega arith,
  omega (arith, limited-is _ _ _ _ c.limited-n.ensures c.in-Value.is),
)

pub shape_of-tables-in_default-piece : goal.shape_of-tables-in_default-piece
shape_of-tables-in_default-piece c = omega (arith, simp length-set at c.productions-piece.auto.tables)

pub returns-in_default-piece : goal.returns-in_default-piece
returns-in_default-piece c =
    rules-piece _ _ _ _ _ _ _ _ _ (omega arith) c.loop-a.invariant.4 c.limited-n.ensures c.in-Value.is c.narrow.ensures
    c.productions-piece.ensures c.in_default-piece.is

pub overflow_add-k : goal.overflow_add-k
overflow_add-k c = let h = limited-is _ _ _ _ c.limited-n.ensures c.in-Value.is in omega arith

pub loop-a-preserved : goal.loop-a-preserved
loop-a-preserved c =
    let h = productions-end _ _ _ _ _ _ _ _ _ c.productions-piece.ensures c.in-Value-piece.is (omega arith) in
    let next = limited-tallied _ _ c.loop-a.invariant.5.1 _ _ c.limited-n.ensures c.in-Value.is in (
      omega arith,
      omega arith,
      omega arith,
      omega (arith, simp length-set at c.productions-piece.auto.tables),
      rules-more _ _ _ _ _ _ _ _ _ (omega arith) c.loop-a.invariant.4 c.limited-n.ensures c.in-Value.is c.narrow.ensures
          c.productions-piece.ensures _ (omega arith) c.in-Value-piece.is,
      productions-tallied _ _ _ _ _ _ _ _ _ next.1 c.productions-piece.ensures c.in-Value-piece.is,
    )

pub returns : goal.returns
returns c =
    let e : c.loop-a.a ≡ c.args.nonterminals = omega arith in
    rules-done _ _ _ _ _ _ _ _ _ c.loop-a.invariant.5 (omega arith) c.narrow-2.ensures (rw e at c.loop-a.invariant.4)
