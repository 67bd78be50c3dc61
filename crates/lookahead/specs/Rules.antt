-- The scope's five rules, told of the set that the moves reach: no computed test stands in them, and no order in which members were found.
use Rattle.std.specs.Prelude.{◌≡◌, ◌↔◌, List, [], ℕ, ◌<◌, T, length}
use Rattle.std.proofs.Math.Option.{some}
use Rattle.base.specs.Lists.{Distinct}
use Rattle.grammar.specs.declared.Symbol.TheVariants.{Token}
use Rattle.grammar.specs.Grammar.{Grammar, facing, admits, first}
use Rattle.lookahead.specs.Configs.{Config, config, In, Closes}
use Rattle.lookahead.specs.Closing.{max_members, max_entries, max_kept}
use Rattle.lookahead.specs.Order.{past_end, Ascending}
use Rattle.lookahead.specs.Outcomes.{Outcome, full, alternative, state, onward}

-- ---- what starts and steps take
-- the start of decision a takes the first place of each production with an empty stack
pub record Starts (g : Grammar) (a : ℕ) (c : Config) : Type 0 where
  pub number : ℕ
  pub begins : ℕ
  pub production : first g a number ≡ some begins
  pub is : c ≡ config begins number []

-- a step over token t takes the configurations facing it, one place on
pub record StepsOver (g : Grammar) (t : ℕ) (ks : List Config) (c : Config) : Type 0 where
  pub source : Config
  pub held : In source ks
  pub kind : ℕ
  pub faces : facing g source.place ≡ Token kind
  pub passes : T (admits g kind t)
  pub is : c ≡ onward source

-- ---- how many
-- a property of all members
abbrev pub Each : {A : Type 0} → (A → Type 0) → List A → Type 0
Each {A} P l = (x : A) → In x l → P x

-- more than n configurations have a property
pub record MoreThan (n : ℕ) (P : Config → Type 0) : Type 0 where
  pub listed : List Config
  pub distinct : Distinct listed
  pub each : Each P listed
  pub more : n < length listed

-- ---- the rules
-- rule 1 for the closed set: a member whose stack has more than 8 entries, or more than 256 members
pub data Over (g : Grammar) (start : List Config) : Type 0 where
  deep : (c : Config) → Closes g start c → max_entries < length c.stack → Over g start
  many : MoreThan max_members (Closes g start) → Over g start

-- to be kept: facing a token or the end mark, or past the end mark
pub data ToKeep (g : Grammar) (c : Config) : Type 0 where
  faces : (k : ℕ) → facing g c.place ≡ Token k → ToKeep g c
  past : c.place ≡ past_end → ToKeep g c

-- kept of the closed set
abbrev pub Keeps : Grammar → List Config → Config → Type 0
Keeps g start c = Closes g start c × ToKeep g c

-- rule 1, with more than 64 kept
pub data TooLarge (g : Grammar) (start : List Config) : Type 0 where
  closed-over : Over g start → TooLarge g start
  kept-many : MoreThan max_kept (Keeps g start) → TooLarge g start

-- rule 2: none is kept
abbrev pub Nothing : Grammar → List Config → Type 0
Nothing g start = (c : Config) → ¬ Keeps g start c

-- rule 3: all kept have alternative b, and there is one
pub record Agreed (g : Grammar) (start : List Config) (b : ℕ) : Type 0 where
  pub one : Config
  pub keeps : Keeps g start one
  pub all : (c : Config) → Keeps g start c → c.alternative ≡ b

-- a kept configuration at c's place with another alternative
pub record Rival (g : Grammar) (start : List Config) (c : Config) : Type 0 where
  pub other : Config
  pub keeps : Keeps g start other
  pub place : c.place ≡ other.place
  pub apart : ¬ (c.alternative ≡ other.alternative)

-- rule 4: some place and stack is shared by two alternatives, and no place belongs to only one
pub record Conflict (g : Grammar) (start : List Config) : Type 0 where
  pub one : Config
  pub keeps : Keeps g start one
  pub rival : Rival g start one
  pub stack : one.stack ≡ rival.other.stack
  pub none-alone : (c : Config) → Keeps g start c → Rival g start c

-- rule 5: the kept set, as its ascending list
pub record Kept (g : Grammar) (start ks : List Config) : Type 0 where
  pub ascending : Ascending ks
  pub exact : (c : Config) → In c ks ↔ Keeps g start c

-- the outcome is the first that applies
pub data Gives (g : Grammar) (start : List Config) : Outcome → Type 0 where
  rule1 : TooLarge g start → Gives g start full
  rule2 : ¬ TooLarge g start → Nothing g start → Gives g start full
  rule3 : {b : ℕ} → ¬ TooLarge g start → ¬ Nothing g start → Agreed g start b → Gives g start (alternative b)
  rule4 : ¬ TooLarge g start → ¬ Nothing g start → ((b : ℕ) → ¬ Agreed g start b) → Conflict g start → Gives g start full
  rule5 : {ks : List Config} → ¬ TooLarge g start → ¬ Nothing g start → ((b : ℕ) → ¬ Agreed g start b) → ¬ Conflict g start
      → Kept g start ks → Gives g start (state ks)
