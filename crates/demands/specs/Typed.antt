-- TYPED LINES: what splitting a line does, and that the tokens it gives come to every reading.
use Rattle.std.specs.Prelude.{◌≡◌, ◌↔◌, List, ℕ, ◌<◌, get_or, take}
use Rattle.grammar.specs.Decode.{Rules, Mark, got, decode}
use Rattle.plain.specs.Contract.{PlainDid}
use Rattle.quick.specs.Contract.{QuickDid}
use Rattle.splitter.specs.Splitting.{split_answer}
use Rattle.splitter.specs.Contract.{SplitDid}
use Rattle.splitter.specs.Splits.{Splits}

-- what a reading of a note answered is neither 8 nor, but for a token above the grammar's highest kind, 9
pub record TokensPass (bytes note : List ℕ) (number place : ℕ) : Type 0 where
  pub no-8 : ¬ (number ≡ 8)
  -- 9 only at a token above the grammar's highest kind
  pub only-9 : (r : Rules) (m : Mark) → decode bytes ≡ got r m → number ≡ 9 → r.kinds < get_or note place 0
  -- and so never where that is 100
  pub no_9 : (r : Rules) (m : Mark) → decode bytes ≡ got r m → r.kinds ≡ 100 → ¬ (number ≡ 9)

-- so of every reading of these tokens, by any bytes, over any row, working space and cache
pub record Admissible (note : List ℕ) : Type 0 where
  pub plain : (bytes row : List ℕ) (space number place count : ℕ) (row' : List ℕ) → PlainDid bytes note row space number place count row'
      → TokensPass bytes note number place
  pub quick : (bytes row : List ℕ) (space : ℕ) (cache : List ℕ) (number place count : ℕ) (row' cache' : List ℕ)
      → QuickDid bytes note row space cache number place count row' cache' → TokensPass bytes note number place

-- ---- TYPED LINES
pub record Typed : Type 0 where
  -- a call that was lent this line, this list and this row answers so and leaves the row so exactly if the cutting of the line says it
  pub split : (line list row : List ℕ) (number place count : ℕ) (row' : List ℕ)
      → SplitDid line list row number place count row' ↔ Splits line list row (split_answer number place count row')
  -- where it is accepted, the tokens that are counted come to every reading
  pub read : (line list row : List ℕ) (place count : ℕ) (row' : List ℕ) → SplitDid line list row 0 place count row' → Admissible (take count row')
