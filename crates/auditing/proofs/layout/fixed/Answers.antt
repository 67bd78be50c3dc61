-- `auditing::layout::fixed` meets its contract: three runs of words, each asked only if those before it are 0.
use mathlib.Core.Bool.{not}
use mathlib.Core.Path.{refl, ap}
use Prim.Native.Nat.{◌+◌}
use native.Mathlib.Omega.{arith}
use Rattle.words.specs.Layout.{length_at, held_at, starts_at, bytes_at, fixed_words}
use Rattle.auditing.proofs.LayoutSteps.{part-zeros, front-used, between-used, end-decides}
use Rattle.auditing.proofs.layout.fixed.Goals as goal

pub returns-then-not-zeros : goal.returns-then-not-zeros
returns-then-not-zeros c = front-used _ _ (part-zeros _ 0 length_at (omega arith) (omega arith) c.zeros.ensures) (ap not c.if-not-zeros.true)

pub returns-then-not-zeros-2 : goal.returns-then-not-zeros-2
returns-then-not-zeros-2 c =
    between-used _ _ (part-zeros _ 0 length_at (omega arith) (omega arith) c.zeros.ensures) (ap not c.if-not-zeros.false) refl
    (part-zeros _ (held_at + 1) starts_at (omega arith) (omega arith) c.zeros-2.ensures) (ap not c.if-not-zeros-2.true)

pub returns : goal.returns
returns c =
    end-decides _ _ (part-zeros _ 0 length_at (omega arith) (omega arith) c.zeros.ensures) (ap not c.if-not-zeros.false) refl
    (part-zeros _ (held_at + 1) starts_at (omega arith) (omega arith) c.zeros-2.ensures) (ap not c.if-not-zeros-2.false)
    (part-zeros _ (bytes_at + c.args.n) fixed_words (omega arith) (omega arith) c.zeros-3.ensures)
