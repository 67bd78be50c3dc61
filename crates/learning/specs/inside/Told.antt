-- What an answer of `start` and `step` tells, with the words that they leave.
use Rattle.std.specs.Prelude.{◌≡◌, List, ℕ, ◌-◌, ◌*◌, ◌≤◌, ◌<◌, length, take, drop}
use Rattle.std.proofs.Math.Option.{Option, none, some}
use Rattle.grammar.specs.Grammar.{Grammar}
use Rattle.grammar.specs.inside.Tables.{nonterminals_in}
use Rattle.derivation.specs.inside.Ready.{Ready}
use Rattle.learning.specs.declared.rules.Outcome as told
use Rattle.learning.specs.declared.rules.Outcome.TheVariants.{Full, Alternative, State}
use Rattle.lookahead.specs.Configs.{Config}
use Rattle.lookahead.specs.Closing.{max_kept}
use Rattle.lookahead.specs.Order.{stack_key, kept}
use Rattle.configurations.specs.Packing.{config_words, pack_all}
use Rattle.configurations.specs.inside.Packed.{member_words}
use Rattle.configurations.specs.inside.Held.{config_at, Room}
use Rattle.lookahead.specs.Outcomes.{Outcome, full, alternative, state, within_kept}

-- a state of n configurations, whose words stand in ws from configuration f on
pub record TellsState (f n : ℕ) (ws : List ℕ) (o : Outcome) : Type 0 where
  pub configs : List Config
  pub is : o ≡ state configs
  pub count : length configs ≡ n
  pub few : n ≤ max_kept
  pub within : config_words * f ≤ length ws
  pub words : take (config_words * n) (drop (config_words * f) ws) ≡ pack_all configs

-- the answer with these words tells outcome o
unfoldable pub Tells : told.Outcome → List ℕ → Outcome → Type 0
Tells Full ws o = o ≡ full
Tells (Alternative b) ws o = o ≡ alternative b
Tells (State f n) ws o = TellsState f n ws o

-- the outcome of a closed set, if there is one
unfoldable pub outcome_of : Grammar → Option (List Config) → Outcome
unfolding kept within_kept
outcome_of g none = full
outcome_of g (some ms) = within_kept (kept g ms)

-- ---- what the code relies on
-- a start: the tables of a sound grammar, words for members, and a nonterminal
pub record Gathers (t ms : List ℕ) (a : ℕ) : Type 0 where
  pub ready : Ready t
  pub long : length ms ≡ member_words
  pub named : a < nonterminals_in t

-- judging: the kept members stand from f on up to n, in the order of their stacks' digits, and are not too many
pub record Judges (ms : List ℕ) (f n : ℕ) : Type 0 where
  pub within : f ≤ n
  pub room : Room ms n
  pub few : n - f ≤ max_kept
  pub stacks : (i j : ℕ) → f ≤ i → i ≤ j → j < n → stack_key (config_at ms i).stack ≤ stack_key (config_at ms j).stack
