-- `auditing::layout::kept` meets its contract: each configuration is looked at with the one before it, and those looked at so far fit.
use mathlib.Core.Path.{◌≡◌}
use Prim.Native.Nat.{◌-◌}
use Rattle.base.specs.Search.{all_from}
use Rattle.auditing.specs.Coherence.{kept?}
use Rattle.auditing.specs.inside.Ordered.{in_order?}
use Rattle.auditing.proofs.KeptSteps.{FitBelow}
use Rattle.auditing.proofs.layout.kept.Given as goal

abbrev pub invariant-loop-k : goal.invariant-loop-k
invariant-loop-k l = (all_from (in_order? l.words) l.k (l.k-end - l.k) ≡ kept? l.words) × FitBelow l.words l.k
