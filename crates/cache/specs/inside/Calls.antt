-- What the cache's calls may rely on.
use Rattle.std.specs.Prelude.{◌≡◌, List, ℕ, ◌+◌, ◌*◌, ◌%◌, ◌≤◌, ◌<◌, ◌^◌, length}
use Rattle.grammar.specs.Limits.{max_kinds}
use Rattle.grammar.specs.inside.Tables.{nonterminals_in, grammar_in}
use Rattle.derivation.specs.inside.Ready.{Ready}
use Rattle.derivation.specs.Demand2.{Known}
use Rattle.lookahead.specs.Closing.{max_kept}
use Rattle.configurations.specs.Packing.{config_words}
use Rattle.words.specs.Layout.{slot_words, max_slots, min_words, slots, slot_at}
use Rattle.words.specs.Words.{held, step_of}

-- ---- recording
-- the words of no more configurations than may be kept
pub record KeptConfigs (ws : List ℕ) : Type 0 where
  pub few : length ws ≤ config_words * max_kept
  pub whole : length ws % config_words ≡ 0

-- slot s is the next one, and a state of decision a can be stored in it
pub record Next (c : List ℕ) (s a : ℕ) : Type 0 where
  pub is : s ≡ held c
  pub low : s < max_slots
  pub within : slot_at s + slot_words ≤ length c
  pub decision : a < 2 ^ 32

-- an outcome of decision a can be recorded in word i
pub record Recordable (c : List ℕ) (i a : ℕ) : Type 0 where
  pub long : min_words ≤ length c
  pub within : i < length c
  pub decision : a < 2 ^ 32

-- ---- asking
-- the start of decision a can be asked
pub record Askable (t c : List ℕ) (a : ℕ) : Type 0 where
  pub ready : Ready t
  pub names : a < nonterminals_in t
  pub long : min_words ≤ length c

-- the step of slot s over token k can be asked
pub record Steppable (t c : List ℕ) (s k : ℕ) : Type 0 where
  pub ready : Ready t
  pub slot : s < slots (length c)
  pub kind : k ≤ max_kinds

-- nothing is recorded of that step, and its outcome is one of decision a
pub record Unstepped (c : List ℕ) (a s k : ℕ) : Type 0 where
  pub decision : a < 2 ^ 32
  pub none : step_of c s k ≡ 0

-- ---- predicting
-- nonterminal a can be predicted at position i of the note w
pub record Predictable (t w c : List ℕ) (a i : ℕ) : Type 0 where
  pub ready : Ready t
  pub long : min_words ≤ length c
  pub names : a < nonterminals_in t
  pub within : i ≤ length w
  pub known : Known (grammar_in t).kinds w
