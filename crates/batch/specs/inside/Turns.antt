-- What the turns of the loop over the notes do.
use Rattle.std.specs.Prelude.{◌≡◌, List, [], ◌∷◌, ◌++◌, ℕ, ◌+◌, ◌*◌, ◌/◌, ◌≤◌, length, take, drop}
use Rattle.grammar.specs.Grammar.{Grammar}
use Rattle.grammar.specs.inside.Tables.{grammar_in}
use Rattle.derivation.specs.Gate.{at_gate, note_gate}
use Rattle.derivation.specs.Plain.{refuse}
use Rattle.derivation.specs.inside.Ready.{Ready}
use Rattle.words.specs.inside.Standings.{Standing}
use Rattle.gate.specs.Reading.{Reading, reading_number, reading_place, reading_count}
use Rattle.adaptive.specs.Quick.{Reply, reply}
use Rattle.adaptive.specs.Calls.{Call, in_turn, last_words}
use Rattle.quick.specs.inside.Replied.{LongEnough, over_standing}
use Rattle.batch.specs.Batches.{answers_each, total, Fits, calls_of, answers_of, rows_of, told}

-- the three answers of a reading
abbrev pub three_of : Reading → List ℕ
three_of r = reading_number r ∷ reading_place r ∷ reading_count r ∷ []

-- one note by a sound grammar, over a cache that stands so to it: 8, 9, 11, then 12, 13, 10 and 14
unfoldable pub note_by : Standing → Grammar → List ℕ → Call → Reply
unfolding note_gate
note_by x g c k =
    at_gate (λ n p. reply (refuse n p k.row) c) (λ g. over_standing x g k.note k.row c) (note_gate g k.note k.space)

-- what the loop rests on: tables of a sound grammar, and parts that fit together
pub record Parted (t tokens lengths answers row c : List ℕ) (x : Standing) : Type 0 where
  pub ready : Ready t
  pub long : LongEnough x c
  pub fits : Fits tokens lengths answers row (length row / length lengths)

-- the replies to the notes that are left, from these tokens, this row and these words on
abbrev pub rest_of : (List ℕ → Call → Reply) → ℕ → ℕ → List ℕ → List ℕ → List ℕ → List ℕ → List Reply
rest_of read space part lengths tokens row c = in_turn read c (calls_of space part lengths tokens row)

-- answers, row and words are what the replies say
pub record AllRead (c : List ℕ) (xs : List Reply) (answers' row' c' : List ℕ) : Type 0 where
  pub answers : answers' ≡ answers_of (told xs)
  pub row : row' ≡ rows_of (told xs)
  pub words : c' ≡ last_words c xs

-- with k notes read, up to these tokens and entries: what stands there and what is left to come make up the whole
pub record Underway (read : List ℕ → Call → Reply) (space part : ℕ) (tokens lengths : List ℕ) (c₀ : List ℕ) (all : List Reply)
    (k from at : ℕ) (answers row c : List ℕ) : Type 0 where
  pub answers-so : take (answers_each * k) answers ++ answers_of (told (rest_of read space part (drop k lengths) (drop from tokens) (drop at row) c))
      ≡ answers_of (told all)
  pub row-so : take at row ++ rows_of (told (rest_of read space part (drop k lengths) (drop from tokens) (drop at row) c))
      ≡ rows_of (told all)
  pub words-so : last_words c (rest_of read space part (drop k lengths) (drop from tokens) (drop at row) c) ≡ last_words c₀ all
  pub tokens-left : from + total (drop k lengths) ≡ length tokens
  pub entries-left : at + length (drop k lengths) * part ≡ length row

-- what the loop keeps
pub record Turning (t tokens lengths : List ℕ) (x : Standing) (answers₀ row₀ c₀ : List ℕ) (space part k from at : ℕ) (answers row c : List ℕ) : Type 0
  where
    pub underway : Underway (note_by x (grammar_in t)) space part tokens lengths c₀ (rest_of (note_by x (grammar_in t)) space part lengths tokens row₀ c₀)
        k from at answers row c
    pub within : k ≤ length lengths
    pub answers-kept : length answers ≡ length answers₀
    pub row_kept : length row ≡ length row₀
    pub cache-kept : length c ≡ length c₀
