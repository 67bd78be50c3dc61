-- What the parser's answer and the row that it was lent say together.
use Rattle.std.specs.Prelude.{ℕ, List, take, Option as Answer, Some, None}
use Rattle.std.proofs.Math.Option.{Option, none, some}

-- the tokens counted stand at the row's start
abbrev pub note_in : Answer ℕ → List ℕ → Option (List ℕ)
note_in (Some k) row = some (take k row)
note_in None row = none

-- how many tokens were put there
abbrev pub line_count : Answer ℕ → ℕ
line_count (Some k) = k
line_count None = 0
