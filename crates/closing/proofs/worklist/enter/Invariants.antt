-- `closing::worklist::enter` meets its contract: the productions behind those that were entered are left to enter.
use Rattle.grammar.specs.inside.Tables.{grammar_in}
use Rattle.lookahead.specs.Configs.{entered}
use Rattle.lookahead.specs.Closing.{add_all}
use Rattle.configurations.specs.inside.Packed.{config_of}
use Rattle.configurations.specs.inside.Held.{configs_from}
use Rattle.configurations.proofs.GrowSteps.{Left}
use Rattle.closing.proofs.FollowLaws.{entering}
use Rattle.closing.proofs.worklist.enter.Given as goal

abbrev pub invariant-loop-f : goal.invariant-loop-f
invariant-loop-f l =
    Left l.members l.n (entering l.f-items (config_of l.c) l.f-index)
    (add_all (configs_from l.initial.members 0 l.from) (entered (grammar_in l.tables) (config_of l.c) l.a))
