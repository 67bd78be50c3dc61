-- A truck's notes in one call: what a batch answers and leaves, for any bytes, tokens, lengths, answers, row, working space and cache. Behind the gate of
-- sound bytes and 18 it is quick readings made singly, in order.
use Rattle.std.specs.Prelude.{◌≡◌, Bool, ◌&&◌, cond, List, [], ◌∷◌, ◌++◌, ℕ, ◌+◌, ◌*◌, ◌/◌, ◌%◌, ◌≤◌, eqb, leb, length, take, drop}
use Rattle.derivation.specs.Gate.{at_gate, sound_gate}
use Rattle.derivation.specs.Plain.{Answer}
use Rattle.adaptive.specs.Quick.{Reply, quick_reading}
use Rattle.adaptive.specs.Calls.{Call, call, quick, in_turn, last_words}

-- the most notes of a batch
abbrev pub max_notes : ℕ
max_notes = 64

-- the answers of a note: number, place and count
abbrev pub answers_each : ℕ
answers_each = 3

-- ---- the notes
-- the tokens of all notes together
unfoldable pub total : List ℕ → ℕ
total [] = 0
total (n ∷ ns) = n + total ns

-- the calls that a batch is made of: the tokens are cut by the lengths and the row into parts of so many entries; each has the whole working space
unfoldable pub calls_of : ℕ → ℕ → List ℕ → List ℕ → List ℕ → List Call
calls_of space part [] tokens row = []
calls_of space part (n ∷ lengths) tokens row =
    call (take n tokens) (take part row) space ∷ calls_of space part lengths (drop n tokens) (drop part row)

-- number, place and count, note by note
unfoldable pub answers_of : List Answer → List ℕ
answers_of [] = []
answers_of (a ∷ rest) = a.number ∷ a.place ∷ a.count ∷ answers_of rest

-- the rows: each begins where the one before it ended
unfoldable pub rows_of : List Answer → List ℕ
rows_of [] = []
rows_of (a ∷ rest) = a.row ++ rows_of rest

-- what quick readings answered, without the words that they left
unfoldable pub told : List Reply → List Answer
told [] = []
told (x ∷ xs) = x.answer ∷ told xs

-- ---- what a batch answers, and what it leaves
pub record Batched : Type 0 where
  pub number : ℕ
  pub place : ℕ
  pub answers : List ℕ
  pub row : List ℕ
  pub words : List ℕ

abbrev pub batched : ℕ → ℕ → List ℕ → List ℕ → List ℕ → Batched
batched n p answers row c = record { number = n; place = p; answers = answers; row = row; words = c }

-- what the readings answered and left
abbrev pub read_of : List ℕ → List Reply → Batched
read_of c xs = batched 0 0 (answers_of (told xs)) (rows_of (told xs)) (last_words c xs)

-- QUICK READINGS MADE SINGLY in that order, each over the words that the one before it left, with an equal part of the row each
unfoldable pub read_all : List ℕ → List ℕ → List ℕ → List ℕ → ℕ → List ℕ → Batched
unfolding calls_of quick_reading in_turn answers_of rows_of told last_words
read_all s tokens lengths row space c =
    let part = length row / length lengths in
    read_of c (in_turn (quick s) c (calls_of space part lengths tokens row))

-- what is lent fits together, with so many entries of the row for each note
pub record Fits (tokens lengths answers row : List ℕ) (part : ℕ) : Type 0 where
  pub some : 1 ≤ length lengths
  pub few : length lengths ≤ max_notes
  pub adds-up : total lengths ≡ length tokens
  pub three : length answers ≡ answers_each * length lengths
  pub even : length row ≡ length lengths * part

-- the same as a test: there are 1 to 64 notes, their lengths add up to the tokens, there are three answers a note, and the row divides evenly
unfoldable pub fits? : List ℕ → List ℕ → List ℕ → List ℕ → Bool
unfolding total
fits? tokens lengths answers row =
    let n = length lengths in
    leb 1 n && leb n max_notes && eqb (total lengths) (length tokens) && eqb (length answers) (answers_each * n) && eqb (length row % n) 0

-- 18, and then the notes
unfoldable pub from18 : List ℕ → List ℕ → List ℕ → List ℕ → List ℕ → ℕ → List ℕ → Batched
unfolding fits? read_all
from18 s tokens lengths answers row space c =
    let read = read_all s tokens lengths row space c in
    cond (fits? tokens lengths answers row) read (batched 18 0 answers row c)

-- 1 to 7 at the gate of sound bytes, and then 18
unfoldable pub batch_reading : List ℕ → List ℕ → List ℕ → List ℕ → List ℕ → ℕ → List ℕ → Batched
unfolding sound_gate from18
batch_reading s tokens lengths answers row space c =
    at_gate (λ n p. batched n p answers row c) (λ g. from18 s tokens lengths answers row space c) (sound_gate s)
