-- What splitting a line promises, and the scope's number, place and count of what it answers.
use Rattle.std.specs.Prelude.{◌≡◌, List, ℕ}
use Rattle.splitter.specs.Splitting.{split_answer, splitting}
use Rattle.splitter.specs.declared.splitting.Splitting.{Splitting}
use Rattle.splitter.specs.declared.splitting.Splitting.TheVariants.{Split, LongLine, BadList, Foreign, LongNote, ShortRow}

-- 0 where the line was split, else the refusal's number
abbrev pub splitting_number : Splitting → ℕ
splitting_number (Split count) = 0
splitting_number LongLine = 15
splitting_number BadList = 17
splitting_number (Foreign at) = 16
splitting_number LongNote = 8
splitting_number ShortRow = 14

-- 0 where none is named
abbrev pub splitting_place : Splitting → ℕ
splitting_place (Split count) = 0
splitting_place LongLine = 0
splitting_place BadList = 0
splitting_place (Foreign at) = at
splitting_place LongNote = 0
splitting_place ShortRow = 0

-- the tokens of the line, 0 where refused
abbrev pub splitting_count : Splitting → ℕ
splitting_count (Split count) = count
splitting_count LongLine = 0
splitting_count BadList = 0
splitting_count (Foreign at) = 0
splitting_count LongNote = 0
splitting_count ShortRow = 0

-- THE CONTRACT OF `split`: splitting that was lent this line, this list and this row answered this number, place and count and left the row so
abbrev pub SplitDid : List ℕ → List ℕ → List ℕ → ℕ → ℕ → ℕ → List ℕ → Type 0
SplitDid line list row number place count row' = split_answer number place count row' ≡ splitting line list row
