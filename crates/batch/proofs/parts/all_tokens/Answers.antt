-- The goals of `batch::parts::all_tokens` that are not found.
use native.Mathlib.Omega.{arith}
use Rattle.batch.proofs.PartLaws.{total-next, total-none}
use Rattle.batch.proofs.parts.all_tokens.Goals as goal

pub loop-n-init : goal.loop-n-init
loop-n-init c = (omega arith, omega arith, omega arith)

pub overflow_add-sum : goal.overflow_add-sum
overflow_add-sum c = omega (arith, c.type_inv.lengths c.loop-n.n-index, c.from-sum.ensures, c.requires, c.loop-n.invariant)

pub loop-n-preserved : goal.loop-n-preserved
loop-n-preserved c =
    let inv = c.loop-n.invariant in
    let next = total-next c.args.lengths.now c.loop-n.n-index (omega arith) in
    (omega (arith, next, inv.0, c.from-sum.ensures), omega arith, omega (arith, c.type_inv.lengths c.loop-n.n-index, c.from-sum.ensures, inv))

pub returns : goal.returns
returns c = omega (arith, c.loop-n.invariant.0, total-none c.args.lengths.now c.loop-n.n-index (omega arith))
