-- Coherent words: laid out as documented, no decision holds two equal states, and every recorded start and step is what the learning rules give.
-- These are the caches of demand 3, and what an audit has to decide. No test is computed here, and no outcome: what the rules give is their relation.
use Rattle.std.specs.Prelude.{◌≡◌, ◌⊎◌, ◌≢◌, List, ℕ, ◌+◌, ◌≤◌, ◌<◌, length}
use Rattle.grammar.specs.Limits.{max_nonterminals, max_productions, max_kinds}
use Rattle.grammar.specs.Grammar.{Grammar}
use Rattle.lookahead.specs.Configs.{Config, Decides}
use Rattle.lookahead.specs.Closing.{max_entries, max_kept}
use Rattle.lookahead.specs.Order.{past_end, Ascending, return_radix}
use Rattle.lookahead.specs.Outcomes.{Outcome, full, alternative, state}
use Rattle.lookahead.specs.Rules.{Each}
use Rattle.lookahead.specs.Given.{StartGives, StepGives}
use Rattle.words.specs.Layout.{min_words, fixed_words, slots, held_at, start_at, bytes_at, slot_at, count_at, step_at, configs_at, full_word, state_word}
use Rattle.configurations.specs.Packing.{pack_all}
use Rattle.words.specs.Words.{word, held, start_of, step_of, decision, kept_words, kept_in}
use Rattle.words.specs.Begin.{pack_bytes, BegunFor}

-- the word w says the outcome o of decision a
abbrev pub Says : List ℕ → ℕ → ℕ → Outcome → Type 0
Says c a w full = w ≡ full_word
Says c a w (alternative b) = (w ≡ b) × (1 ≤ b) × (b ≤ max_productions)
Says c a w (state ks) = (s : ℕ) × (w ≡ state_word s) × (s < held c) × (decision c s ≡ a) × (kept_words c s ≡ pack_all ks)

-- the word w says an outcome of decision a that is given
pub record SaysGiven (c : List ℕ) (a w : ℕ) (Given : Outcome → Type 0) : Type 0 where
  pub outcome : Outcome
  pub given : Given outcome
  pub says : Says c a w outcome

-- a configuration that three words hold
pub record Storable (k : Config) : Type 0 where
  pub place : k.place ≤ past_end
  pub least : 1 ≤ k.alternative
  pub most : k.alternative ≤ max_productions
  pub entries : length k.stack ≤ max_entries
  pub returns : Each (λ (r : ℕ). r < return_radix) k.stack

-- slot s holds a state
pub record Slot (g : Grammar) (c : List ℕ) (s : ℕ) : Type 0 where
  pub decides : Decides g (decision c s)
  pub counted : word c (count_at s) ≡ length (kept_in c s)
  pub some : 1 ≤ length (kept_in c s)
  pub few : length (kept_in c s) ≤ max_kept
  pub packed : kept_words c s ≡ pack_all (kept_in c s)
  pub fitting : Each Storable (kept_in c s)
  pub ascending : Ascending (kept_in c s)

-- the words of the documented fields
pub data Used (g : Grammar) (bytes c : List ℕ) (i : ℕ) : Type 0 where
  size : 1 ≤ i → i ≤ held_at → Used g bytes c i
  start : (a : ℕ) → Decides g a → i ≡ start_at a → Used g bytes c i
  byte : (j : ℕ) → j < length (pack_bytes bytes) → i ≡ bytes_at + j → Used g bytes c i
  its-decision : (s : ℕ) → s < held c → i ≡ slot_at s → Used g bytes c i
  count : (s : ℕ) → s < held c → i ≡ count_at s → Used g bytes c i
  step : (s t : ℕ) → s < held c → t ≤ g.kinds → i ≡ step_at s t → Used g bytes c i
  kept : (s j : ℕ) → s < held c → j < length (kept_words c s) → i ≡ configs_at s + j → Used g bytes c i

pub record Coherent (g : Grammar) (bytes c : List ℕ) : Type 0 where
  -- the layout
  pub long : min_words ≤ length c
  pub begun-for : BegunFor bytes c
  pub held_fits : held c ≤ slots (length c)
  pub slot : (s : ℕ) → s < held c → Slot g c s
  pub unused : (i : ℕ) → ¬ Used g bytes c i → word c i ≡ 0
  -- no decision holds two equal states
  pub single : (s s' : ℕ) → s < held c → s' < held c → decision c s ≡ decision c s' → kept_words c s ≡ kept_words c s' → s ≡ s'
  -- every recorded start and step says an outcome that the learning rules give
  pub started : (a : ℕ) → Decides g a → start_of c a ≢ 0 → SaysGiven c a (start_of c a) (StartGives g a)
  pub stepped : (s t : ℕ) → s < held c → t ≤ g.kinds → step_of c s t ≢ 0 → SaysGiven c (decision c s) (step_of c s t) (StepGives g t (kept_in c s))

-- words only grow: what was recorded stays as it was
pub record Extends (g : Grammar) (c c' : List ℕ) : Type 0 where
  pub as_long : length c' ≡ length c
  pub same-fixed : (i : ℕ) → (i < held_at) ⊎ ((bytes_at ≤ i) × (i < fixed_words)) → word c' i ≡ word c i
  pub more : held c ≤ held c'
  pub same-decision : (s : ℕ) → s < held c → decision c' s ≡ decision c s
  pub same_kept : (s : ℕ) → s < held c → kept_words c' s ≡ kept_words c s
  pub same_start : (a : ℕ) → a < max_nonterminals → start_of c a ≢ 0 → start_of c' a ≡ start_of c a
  pub same_step : (s t : ℕ) → s < held c → t ≤ max_kinds → step_of c s t ≢ 0 → step_of c' s t ≡ step_of c s t
