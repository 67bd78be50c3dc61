-- What the code's words hold: the members of a closed set side by side, the kept ones of them in order.
use Rattle.std.specs.Prelude.{◌≡◌, List, [], ◌∷◌, ℕ, zero, suc, ◌+◌, ◌-◌, ◌≤◌, ◌<◌, length}
use Rattle.std.proofs.Math.Option.{Option, none, some}
use Rattle.lookahead.specs.Configs.{Config}
use Rattle.lookahead.specs.Closing.{max_members, max_kept}
use Rattle.lookahead.specs.Order.{insert}
use Rattle.std.specs.Prelude.{Some, None}
use Rattle.std.specs.Prelude as code
use Rattle.configurations.specs.inside.Packed.{config_of, Exact, member_words, packed_at}

-- the configuration at k
unfoldable pub config_at : List ℕ → ℕ → Config
unfolding config_of packed_at
config_at ws k = config_of (packed_at ws k)

-- the configurations from k on, n of them
unfoldable pub configs_from : List ℕ → ℕ → ℕ → List Config
unfolding config_at
configs_from ws k zero = []
configs_from ws k (suc n) = config_at ws k ∷ configs_from ws (suc k) n

-- words the first n configurations of which are members
pub record Room (ws : List ℕ) (n : ℕ) : Type 0 where
  pub few : n ≤ max_members
  pub long : length ws ≡ member_words
  pub exact : (k : ℕ) → k < n → Exact (packed_at ws k)

-- the members that the search for one passes over at once
abbrev pub block_members : ℕ
block_members = 4

-- a part of the members, from f up to t
pub record MemberPart (ws : List ℕ) (f t : ℕ) : Type 0 where
  pub within : f ≤ t
  pub room : Room ws t

-- how many members there are, or nothing where there would be too many, or one too deep
abbrev pub Added : Type 0
Added = code.Option ℕ

-- the members after an answer
unfoldable pub held_after : Added → List ℕ → Option (List Config)
unfolding configs_from
held_after (Some n) ws = some (configs_from ws 0 n)
held_after None ws = none

unfoldable pub RoomAfter : Added → List ℕ → Type 0
RoomAfter (Some n) ws = Room ws n
RoomAfter None ws = Unit {0}

-- the words hold these members, or there are none
pub record Grows (r : Added) (ws : List ℕ) (ms : Option (List Config)) : Type 0 where
  pub is : held_after r ws ≡ ms
  pub room : RoomAfter r ws

-- room for one more at f, before those that stand behind it up to n
pub record Inserts (ws : List ℕ) (f n : ℕ) : Type 0 where
  pub room : Room ws n
  pub free : f < n

-- c among those behind f and up to n, by its packed value; what stands before f stays
pub record Inserted (ws ws' : List ℕ) (f n : ℕ) (c : Config) : Type 0 where
  pub room : Room ws' n
  pub before : (k : ℕ) → k < f → config_at ws' k ≡ config_at ws k
  pub are : configs_from ws' f (n - f) ≡ insert c (configs_from ws (f + 1) (n - (f + 1)))

-- these configurations stand from f on up to n
pub record Stands (ws : List ℕ) (f n : ℕ) (ks : List Config) : Type 0 where
  pub within : f ≤ n
  pub room : Room ws n
  pub are : configs_from ws f (n - f) ≡ ks
  pub few : length ks ≤ max_kept

-- they do from the answered number on, or are more than 64
unfoldable pub Sorted : Added → List ℕ → ℕ → List Config → Type 0
Sorted (Some f) ws n ks = Stands ws f n ks
Sorted None ws n ks = max_kept < length ks
