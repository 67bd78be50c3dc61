-- What a plain reading promises.
use Rattle.std.specs.Prelude.{◌≡◌, List, ℕ}
use Rattle.derivation.specs.Plain.{answer, plain_reading}

-- THE CONTRACT OF `plain`: a plain reading that was lent these bytes, this note, this row and so many words of working space answered this number, place and
-- count and left the row so
abbrev pub PlainDid : List ℕ → List ℕ → List ℕ → ℕ → ℕ → ℕ → ℕ → List ℕ → Type 0
PlainDid bytes note row space number place count row' = answer number place count row' ≡ plain_reading bytes note row space
