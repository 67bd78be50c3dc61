-- `auditing::states::single` meets its contract: each state is new among those before it, whose prints are kept.
use mathlib.Core.Path.{◌≡◌}
use Prim.Native.Nat.{◌-◌}
use Rattle.base.specs.Search.{all_from}
use Rattle.auditing.specs.Coherence.{new?, single?}
use Rattle.auditing.specs.inside.Relied.{Printed}
use Rattle.auditing.proofs.states.single.Given as goal

abbrev pub invariant-loop-s : goal.invariant-loop-s
invariant-loop-s l = (all_from (new? l.cache) l.s (l.s-end - l.s) ≡ single? l.cache) × Printed l.cache l.prints l.s
