-- `closing::worklist::behind` meets its contract: the occurrences from place p on are left to go behind.
use mathlib.Core.List.{[]}
use mathlib.Core.List.{map}
use Prim.Native.Nat.{ℕ, ◌≤◌, ◌-◌}
use Rattle.grammar.specs.inside.Tables.{grammar_in}
use Rattle.lookahead.specs.Configs.{config, behind_from}
use Rattle.lookahead.specs.Closing.{add_all}
use Rattle.configurations.specs.inside.Packed.{config_of}
use Rattle.configurations.specs.inside.Held.{configs_from}
use Rattle.configurations.proofs.GrowSteps.{Left}
use Rattle.closing.proofs.FollowLaws.{behinds}
use Rattle.closing.proofs.worklist.behind.Given as goal

abbrev pub invariant-loop-p : goal.invariant-loop-p
invariant-loop-p l =
    (l.p ≤ l.size) × Left l.members l.n (behinds l.tables (config_of l.c).alternative l.a l.p)
    (add_all (configs_from l.initial.members 0 l.from)
    (map (λ (q : ℕ). config q (config_of l.c).alternative []) (behind_from l.a 0 (grammar_in l.tables).places)))

abbrev pub decreases-loop-p : goal.decreases-loop-p
decreases-loop-p l = l.size - l.p
