-- The goals of `opening::leading::lead` that are not found.
use native.Mathlib.Omega.{arith}
use Rattle.opening.proofs.LeadLaws.{turned-settled, lacks-called}
use Rattle.opening.proofs.leading.lead.Goals as goal

pub loop-pair-preserved : goal.loop-pair-preserved
loop-pair-preserved c =
    let paid = c.in_ok-pay.ensures in
    turned-settled c.loop-pair.invariant c.settle.ensures (lacks-called c.in-Needs.ensures) (omega (arith, paid.0)) paid.1
