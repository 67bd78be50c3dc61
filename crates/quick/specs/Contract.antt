-- What a quick reading promises.
use Rattle.std.specs.Prelude.{◌≡◌, List, ℕ}
use Rattle.derivation.specs.Plain.{answer}
use Rattle.adaptive.specs.Quick.{reply, quick_reading}

-- THE CONTRACT OF `quick`: a quick reading that was lent these bytes, this note, this row, so many words of working space and this cache answered this number,
-- place and count and left row and cache so
abbrev pub QuickDid : List ℕ → List ℕ → List ℕ → ℕ → List ℕ → ℕ → ℕ → ℕ → List ℕ → List ℕ → Type 0
QuickDid bytes note row space cache number place count row' cache' = reply (answer number place count row') cache'
    ≡ quick_reading bytes note row space cache
