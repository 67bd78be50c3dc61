-- `auditing::states::new` meets its contract: a state with another print is another state, and one with the same print is compared.
use mathlib.Core.Path.{◌≡◌}
use mathlib.Core.Bool.{not}
use Prim.Native.Nat.{ℕ, ◌-◌}
use Rattle.base.specs.Search.{all_from}
use Rattle.auditing.specs.Coherence.{equal?, new?}
use Rattle.auditing.proofs.states.new.Given as goal

abbrev pub invariant-loop-p : goal.invariant-loop-p
invariant-loop-p l = all_from (λ (p : ℕ). not (equal? l.cache p l.s)) l.p (l.s - l.p) ≡ new? l.cache l.s
