-- `grammar::corner_row` meets its contract: both words of the row lie in the tables, and each is below 65536, so that the two make a word of 32 bits.
use Prim.Native.Nat.{◌+◌, ◌*◌}
use native.Mathlib.Omega.{arith}
use Rattle.grammar.specs.inside.Tables.{corners_at}
use Rattle.grammar.proofs.CornerLaws.{row_read}
use Rattle.grammar.proofs.corner_row.Goals as goal

pub overflow_mul-high : goal.overflow_mul-high
overflow_mul-high c =
    let at = corners_at + 2 * c.args.a in
    let high = c.shared_slice_known-3-1.given (at + 1) in
    omega (arith, high, c.from-high.ensures)

pub overflow_add-low : goal.overflow_add-low
overflow_add-low c =
    let at = corners_at + 2 * c.args.a in
    let high = c.shared_slice_known-3-1.given (at + 1) in
    let low = c.shared_slice_known-2-1.given at in
    omega (arith, low, high, c.from-high.ensures, c.from-low.ensures)

pub word-requires : goal.word-requires
word-requires c =
    let at = corners_at + 2 * c.args.a in
    let high = c.shared_slice_known-3-1.given (at + 1) in
    let low = c.shared_slice_known-2-1.given at in
    omega (arith, low, high, c.from-high.ensures, c.from-low.ensures)

pub returns : goal.returns
returns c = row_read _ _ _ _ c.from-low.ensures c.from-high.ensures c.word.ensures
