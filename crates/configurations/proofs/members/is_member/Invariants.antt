-- `configurations::members::is_member` meets its contract: members from block b on are left to compare, and they have c exactly if all have it.
use mathlib.Core.Path.{◌≡◌}
use Prim.Native.Nat.{◌-◌, ◌*◌, ◌≤◌}
use Rattle.lookahead.specs.Closing.{member?}
use Rattle.configurations.specs.inside.Packed.{config_of}
use Rattle.configurations.specs.inside.Held.{configs_from, block_members}
use Rattle.configurations.proofs.members.is_member.Given as goal

abbrev pub invariant-loop-b : goal.invariant-loop-b
invariant-loop-b l =
    (block_members * l.b ≤ l.n)
    × (member? (config_of l.c) (configs_from l.members (block_members * l.b) (l.n - block_members * l.b))
    ≡ member? (config_of l.c) (configs_from l.members 0 l.n))
