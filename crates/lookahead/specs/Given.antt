-- What the learning rules give of a start or a step: the rules' outcome of the configurations that it takes, in whatever order they are listed.
use Rattle.std.specs.Prelude.{◌↔◌, List, ℕ}
use Rattle.grammar.specs.Grammar.{Grammar}
use Rattle.lookahead.specs.Configs.{Config, In}
use Rattle.lookahead.specs.Outcomes.{Outcome}
use Rattle.lookahead.specs.Rules.{Starts, StepsOver, Gives}

-- a list whose members are exactly the configurations that are taken
abbrev pub Lists : (Config → Type 0) → List Config → Type 0
Lists Taken l = (c : Config) → In c l ↔ Taken c

-- the rules give the outcome o of the configurations that are taken
pub record Learns (g : Grammar) (Taken : Config → Type 0) (o : Outcome) : Type 0 where
  pub listed : List Config
  pub exact : Lists Taken listed
  pub gives : Gives g listed o

-- of the start of decision a
abbrev pub StartGives : Grammar → ℕ → Outcome → Type 0
StartGives g a o = Learns g (Starts g a) o

-- of a step over token t from the configurations of a state
abbrev pub StepGives : Grammar → ℕ → List Config → Outcome → Type 0
StepGives g t ks o = Learns g (StepsOver g t ks) o
