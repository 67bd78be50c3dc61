-- DEMAND 1: "Nothing in a grammar, note or cache can make a call touch memory outside what it was lent, wrap a sum, or run for ever. No call relies on an
-- earlier check. No refusal but 10 and 14 alters the row or the cache; those two set the row to zeros and keep what the cache learned."
--
-- The first two sentences need no theorem here: the language proves of every function that it touches nothing but what it was lent, wraps no sum and ends, and
-- no public call has a `requires`, so all that is proved holds of any bytes, notes, rows, working spaces and words of a cache. Here is the third, of the same.
use Rattle.std.specs.Prelude.{◌≡◌, ◌⊎◌, List, ℕ, length, replicate}
use Rattle.grammar.specs.Decode.{Rules, Mark, got, decode}
use Rattle.grammar.specs.Grammar.{compile}
use Rattle.words.specs.Begin.{BeginDid}
use Rattle.cache.specs.Coherent.{Extends}
use Rattle.adaptive.specs.Proceeding.{ReadsNote}
use Rattle.plain.specs.Contract.{PlainDid}
use Rattle.quick.specs.Contract.{QuickDid}
use Rattle.batch.specs.Contract.{BatchDid}

-- 10 and 14
abbrev pub Clears : ℕ → Type 0
Clears number = (number ≡ 10) ⊎ (number ≡ 14)

-- the reading passed every other refusal and came to the note
abbrev pub Came : ℕ → Type 0
Came number = (number ≡ 0) ⊎ Clears number

-- ---- the row
pub record RowAfter (row : List ℕ) (number count : ℕ) (row' : List ℕ) : Type 0 where
  -- no refusal but 10 and 14 alters the row
  pub untouched : ¬ Came number → row' ≡ row
  -- those two set it to zeros
  pub zeros : Clears number → row' ≡ replicate (length row) 0
  -- and no refusal counts an entry
  pub uncounted : ¬ (number ≡ 0) → count ≡ 0

-- ---- the cache
-- a reading that came to the note: the cache holds exactly what it learned up to where it stopped, and keeps what was recorded in it before
pub record CacheLearned (bytes note row cache cache' : List ℕ) : Type 0 where
  pub rules : Rules
  pub mark : Mark
  pub says : decode bytes ≡ got rules mark
  pub learned : ReadsNote (compile rules) note (length row) cache cache'
  pub only : (d : List ℕ) → ReadsNote (compile rules) note (length row) cache d → d ≡ cache'
  pub kept : Extends (compile rules) cache cache'

pub record CacheAfter (bytes note row cache : List ℕ) (number : ℕ) (cache' : List ℕ) : Type 0 where
  -- no refusal but 10 and 14 alters the cache
  pub untouched : ¬ Came number → cache' ≡ cache
  -- those two keep what it learned, as an accepted reading does
  pub learned : Came number → CacheLearned bytes note row cache cache'

-- ---- DEMAND 1, of each call that writes
pub record Demand1 : Type 0 where
  pub plain : (bytes note row : List ℕ) (space number place count : ℕ) (row' : List ℕ) → PlainDid bytes note row space number place count row'
      → RowAfter row number count row'
  -- every refusal of a beginning leaves the cache as it was
  pub begin : (bytes cache : List ℕ) (number place : ℕ) (cache' : List ℕ) → BeginDid bytes cache number place cache' → ¬ (number ≡ 0)
      → cache' ≡ cache
  pub quick : (bytes note row : List ℕ) (space : ℕ) (cache : List ℕ) (number place count : ℕ) (row' cache' : List ℕ)
      → QuickDid bytes note row space cache number place count row' cache'
      → RowAfter row number count row' × CacheAfter bytes note row cache number cache'
  -- 1 to 7 and 18 alter no memory; what becomes of the notes otherwise is what single quick calls do (`Trucks`)
  pub batch : (bytes tokens lengths answers row : List ℕ) (space : ℕ) (cache : List ℕ) (number place : ℕ) (answers' row' cache' : List ℕ)
      → BatchDid bytes tokens lengths answers row space cache number place answers' row' cache' → ¬ (number ≡ 0)
      → (answers' ≡ answers) × (row' ≡ row) × (cache' ≡ cache)
