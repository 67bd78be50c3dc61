-- `closing::worklist::close` meets its contract: the worklist from member k on gives the same end.
use mathlib.Core.Path.{◌≡◌}
use Prim.Native.Nat.{◌-◌}
use Rattle.grammar.specs.inside.Tables.{grammar_in}
use Rattle.lookahead.specs.Closing.{max_members, close_from}
use Rattle.configurations.specs.inside.Held.{configs_from, Room}
use Rattle.closing.proofs.worklist.close.Given as goal

abbrev pub invariant-loop-k : goal.invariant-loop-k
invariant-loop-k l =
    Room l.members l.n
    × (close_from (grammar_in l.tables) (max_members - l.k) l.k (configs_from l.members 0 l.n)
    ≡ close_from (grammar_in l.tables) max_members 0 (configs_from l.initial.members 0 l.from))

abbrev pub decreases-loop-k : goal.decreases-loop-k
decreases-loop-k l = max_members - l.k
