-- `reader::read_grammar` meets its contract: each way out is one case of `whole_pass`, which says what was counted; the two counts of the grammar are within
-- limits once they are read, which the rest of the pass asks for.
use Rattle.reader.proofs.PassSteps.{pass-kinds, pass-count, pass-rules, pass-trailing, pass-whole, rules-end}
use mathlib.Core.Path.{◌≡◌}
use mathlib.Core.List.{List}
use Prim.Native.Nat.{ℕ}
use Rattle.number.proofs.NumberLaws.{limited-is}
use Rattle.number.proofs.CountLaws.{limited-tallied}
use Rattle.reader.specs.Counting.{CountsBytes}
use Rattle.reader.specs.inside.Types.{Read}
use Rattle.reader.specs.inside.Pass.{out, whole_pass}
use Rattle.reader.proofs.CountLaws.{pass-counts}
use native.Mathlib.Omega.{arith}
use Rattle.reader.proofs.read_grammar.Goals as goal

-- what leaves the same as the whole pass has counted the same bytes
counted : (s t : List ℕ) {x : Read} {t' : List ℕ} → out x t' ≡ whole_pass s t → (out x t' ≡ whole_pass s t) × CountsBytes s x
counted s t e = (e, pass-counts s t e)

pub returns-in_default : goal.returns-in_default
returns-in_default c = counted _ _ (pass-kinds _ _ c.limited-n.ensures c.in_default.is)

pub limited-m-requires : goal.limited-m-requires
limited-m-requires c = limited-tallied _ 0 (omega arith) _ _ c.limited-n.ensures c.in-Value.is

pub returns-in_default-m : goal.returns-in_default-m
returns-in_default-m c = counted _ _ (pass-count _ _ c.limited-n.ensures c.in-Value.is c.limited-m.ensures c.in_default-m.is)

pub rules-piece-requires : goal.rules-piece-requires
rules-piece-requires c =
    let h = limited-is _ _ _ _ c.limited-n.ensures c.in-Value.is in
    let l = limited-is _ _ _ _ c.limited-m.ensures c.in-Value-m.is in
    let next = limited-tallied _ 0 (omega arith) _ _ c.limited-n.ensures c.in-Value.is in (
      record { kinds-most = omega arith; few = omega arith; room = omega arith; long = omega arith },
      limited-tallied _ _ next.1 _ _ c.limited-m.ensures c.in-Value-m.is,
    )

pub returns-in_default-piece : goal.returns-in_default-piece
returns-in_default-piece c =
    counted _ _ (pass-rules _ _ c.limited-n.ensures c.in-Value.is c.limited-m.ensures c.in-Value-m.is
    c.rules-piece.ensures c.in_default-piece.is)

pub returns-then-at-bytes : goal.returns-then-at-bytes
returns-then-at-bytes c =
    counted _ _ (pass-trailing _ _ c.limited-n.ensures c.in-Value.is c.limited-m.ensures c.in-Value-m.is
    c.rules-piece.ensures c.in-Value-piece.is (omega arith))

pub finish-requires : goal.finish-requires
finish-requires c =
    let h = limited-is _ _ _ _ c.limited-n.ensures c.in-Value.is in
    let l = limited-is _ _ _ _ c.limited-m.ensures c.in-Value-m.is in
    let q = rules-end _ _ _ _ _ _ _ _ _ c.rules-piece.ensures c.in-Value-piece.is (omega arith) in
    omega (arith, c.rules-piece.auto.tables)

pub returns : goal.returns
returns c =
    counted _ _ (pass-whole _ _ c.limited-n.ensures c.in-Value.is c.limited-m.ensures c.in-Value-m.is
    c.rules-piece.ensures c.in-Value-piece.is (omega arith) c.finish.ensures)
