-- What the code of the audit relies on, and what a judged word was found to be.
use Rattle.std.specs.Prelude.{◌≡◌, Bool, List, ℕ, ◌≤◌, ◌<◌, length, get_or}
use Rattle.derivation.specs.inside.Ready.{Ready}
use Rattle.lookahead.specs.Outcomes.{Outcome}
use Rattle.configurations.specs.inside.Packed.{member_words}
use Rattle.learning.specs.declared.rules.Outcome as told
use Rattle.learning.specs.inside.Told.{Tells}
use Rattle.words.specs.Layout.{min_words, max_slots, slots}
use Rattle.words.specs.Words.{held}
use Rattle.auditing.specs.Coherence.{says?}
use Rattle.auditing.specs.inside.Prints.{print_of}

-- words that are long enough, with no more states than slots
pub record Held (c : List ℕ) : Type 0 where
  pub long : min_words ≤ length c
  pub few : held c ≤ slots (length c)

-- the prints of the first s slots stand in ps
pub record Printed (c ps : List ℕ) (s : ℕ) : Type 0 where
  pub room : length ps ≡ max_slots
  pub few : s ≤ max_slots
  pub are : (p : ℕ) → p < s → get_or ps p 0 ≡ print_of c p

-- records can be judged: the tables of a sound grammar, such words, and words for the members of a closed set
pub record Judging (t c ms : List ℕ) : Type 0 where
  pub ready : Ready t
  pub words : Held c
  pub long : length ms ≡ member_words

-- an answer on word w is right of the outcome of decision a that was told with these members
abbrev pub Judges : told.Outcome → List ℕ → List ℕ → ℕ → ℕ → Bool → Type 0
Judges x ms c a w b = (o : Outcome) → Tells x ms o → b ≡ says? c a w o
