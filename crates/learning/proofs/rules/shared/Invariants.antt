-- `learning::rules::shared` meets its contract: each pair is compared once, and a pair that conflicts does so both ways;
-- behind the first with another stack none has the same.
use mathlib.Core.Path.{◌≡◌}
use mathlib.Core.Bool.{false, ◌||◌}
use Prim.Native.Nat.{◌+◌, ◌-◌, ◌<◌}
use Rattle.base.specs.Rounds.{any_of}
use Rattle.lookahead.specs.Outcomes.{conflicts, shared}
use Rattle.configurations.specs.inside.Packed.{config_of, Exact}
use Rattle.configurations.specs.inside.Held.{configs_from}
use Rattle.learning.proofs.JudgeLaws.{pairs}
use Rattle.learning.proofs.rules.shared.Given as goal

abbrev pub invariant-loop-j : goal.invariant-loop-j
invariant-loop-j l =
    ((any_of (conflicts (config_of l.c)) (configs_from l.members l.j (l.n - l.j)) || pairs (configs_from l.members (l.i + 1) (l.n - (l.i + 1))))
    ≡ shared (configs_from l.members l.first (l.n - l.first)))
    × (l.found ≡ false) × Exact l.c × (l.i < l.j)

abbrev pub invariant-search : goal.invariant-search
invariant-search l =
    (pairs (configs_from l.members l.i (l.n - l.i)) ≡ shared (configs_from l.members l.first (l.n - l.first))) × (l.found ≡ false)
