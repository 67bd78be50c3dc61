-- `auditing::states::print_of` meets its contract: the decision's word, and then the words of the configurations.
use mathlib.Core.Path.{refl, ap}
use Rattle.std.specs.List.{sum}
use native.Mathlib.Omega.{arith}
use Rattle.auditing.specs.inside.Prints.{print_of}
use Rattle.auditing.proofs.StateSteps.{kept-few, kept-below, decision-below}
use Rattle.auditing.proofs.states.print_of.Goals as goal

pub total-requires : goal.total-requires
total-requires c = rw c.kept.ensures (kept-few c.args.cache.now c.args.s)

pub overflow_add-result : goal.overflow_add-result
overflow_add-result c =
    let low = decision-below c.args.cache.now c.args.s (λ i. (c.type_inv.cache i).fits) in
    let few = kept-below c.args.cache.now c.args.s (λ i. (c.type_inv.cache i).fits) in
    let kept = ap sum c.kept.ensures in
    omega (arith, low, few, kept, c.decision.ensures, c.total.ensures)

pub returns : goal.returns
unfolding print_of
returns c = rw (c.total.ensures, c.kept.ensures, c.decision.ensures) refl
