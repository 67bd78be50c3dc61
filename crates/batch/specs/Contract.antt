-- What a batch promises.
use Rattle.std.specs.Prelude.{◌≡◌, List, ℕ, Result, ⊤}
use Rattle.number.specs.Refusals.{refusal_number, refusal_place}
use Rattle.number.specs.Answers.{told}
use Rattle.batch.specs.Batches.{batched, batch_reading}
use Rattle.batch.specs.declared.answer.BatchRefusal.{BatchRefusal}
use Rattle.batch.specs.declared.answer.BatchRefusal.TheVariants.{Grammar, BadBatch}

-- every note has its answers, or why not
abbrev pub Batch : Type 0
Batch = Result ⊤ BatchRefusal

-- the refusal's number
abbrev pub refused_number : BatchRefusal → ℕ
refused_number (Grammar r) = refusal_number r
refused_number BadBatch = 18

-- its place, 0 where none is named
abbrev pub refused_place : BatchRefusal → ℕ
refused_place (Grammar r) = refusal_place r
refused_place BadBatch = 0

-- 0 where the notes were read, else the refusal's number
abbrev pub batch_number : Batch → ℕ
batch_number b = told refused_number b

-- 0 where none is named
abbrev pub batch_place : Batch → ℕ
batch_place b = told refused_place b

-- where the call is refused, no word of the working space is altered either
abbrev pub SpaceKept : ℕ → List ℕ → List ℕ → Type 0
SpaceKept number space space' = ¬ (number ≡ 0) → space' ≡ space

-- THE CONTRACT OF `batch`: a batch that was lent these bytes, tokens and lengths, these answers, this row, so many words of working space and this cache
-- answered this number and this place and left answers, row and cache so
abbrev pub BatchDid : List ℕ → List ℕ → List ℕ → List ℕ → List ℕ → ℕ → List ℕ → ℕ → ℕ → List ℕ → List ℕ → List ℕ → Type 0
BatchDid bytes tokens lengths answers row space cache number place answers' row' cache' = batched number place answers' row' cache'
    ≡ batch_reading bytes tokens lengths answers row space cache
