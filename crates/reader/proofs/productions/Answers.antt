-- The goals of `reader::productions` that are not found.
use native.Mathlib.Omega.{arith}
use borrow.Author.Rules.{rules}
use mathlib.Core.Path.{refl, ◌∙◌}
use lib.ListN.{length-set}
use Rattle.number.proofs.NumberLaws.{limited-is}
use Rattle.number.proofs.CountLaws.{limited-tallied}
use Rattle.reader.proofs.CountLaws.{symbols-tallied}
use Rattle.reader.proofs.PassSteps.{productions-left, productions-done, productions-refused, productions-full, productions-piece, productions-more}
use Rattle.reader.proofs.PassSteps.{symbols-end}
use Rattle.reader.proofs.productions.Goals as goal

pub loop-k-init : goal.loop-k-init
loop-k-init c = (omega arith, omega arith, omega arith, refl, productions-left _ _ _ _ _ _ _ _ (omega arith), search rules)

pub returns-in_default : goal.returns-in_default
returns-in_default c = productions-refused _ _ _ _ _ _ _ _ _ (omega arith) c.loop-k.invariant.4 c.limited-n.ensures c.in_default.is

pub overflow_add-p : goal.overflow_add-p
overflow_add-p c = let h = limited-is _ _ _ _ c.limited-n.ensures c.in-Value.is in omega arith

pub overflow_add-p-in-loop-k : goal.overflow_add-p-in-loop-k
overflow_add-p-in-loop-k c = let h = limited-is _ _ _ _ c.limited-n.ensures c.in-Value.is in omega arith

pub returns-then-p-m-gt-MAX_PLACES : goal.returns-then-p-m-gt-MAX_PLACES
returns-then-p-m-gt-MAX_PLACES c =
    productions-full _ _ _ _ _ _ _ _ _ (omega arith) c.loop-k.invariant.4 c.limited-n.ensures c.in-Value.is (omega arith)

pub symbols-piece-requires : goal.symbols-piece-requires
symbols-piece-requires c = (
  record { kinds-most = omega arith; few = omega arith; room = omega arith; long = simp length-set (omega arith) },
  limited-tallied _ _ c.loop-k.invariant.5.1 _ _ c.limited-n.ensures c.in-Value.is,
)

pub shape_of-tables-in_default-piece : goal.shape_of-tables-in_default-piece
shape_of-tables-in_default-piece c = omega (arith, simp length-set at c.symbols-piece.auto.tables)

pub returns-in_default-piece : goal.returns-in_default-piece
returns-in_default-piece c =
    productions-piece _ _ _ _ _ _ _ _ _ (omega arith) c.loop-k.invariant.4 c.limited-n.ensures c.in-Value.is c.narrow.ensures
    (omega arith) c.symbols-piece.ensures c.in_default-piece.is

pub loop-k-preserved : goal.loop-k-preserved
loop-k-preserved c =
    let h = symbols-end _ _ _ _ _ _ _ _ c.symbols-piece.ensures c.in-Value-piece.is in
    let next = limited-tallied _ _ c.loop-k.invariant.5.1 _ _ c.limited-n.ensures c.in-Value.is in (
      omega arith,
      omega arith,
      omega arith,
      omega (arith, simp length-set at c.symbols-piece.auto.tables),
      productions-left _ _ _ _ _ _ _ _ (omega arith)
          ∙ productions-more _ _ _ _ _ _ _ _ _ (omega arith) c.loop-k.invariant.4 c.limited-n.ensures c.in-Value.is
          c.narrow.ensures
          (omega arith) c.symbols-piece.ensures c.in-Value-piece.is,
      symbols-tallied _ _ _ _ _ _ _ _ next.1 c.symbols-piece.ensures c.in-Value-piece.is,
    )

pub returns : goal.returns
returns c = productions-done _ _ _ _ _ _ _ _ _ c.loop-k.invariant.5 (omega arith) c.loop-k.invariant.4
