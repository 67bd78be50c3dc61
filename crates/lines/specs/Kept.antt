-- The line that is open while bytes are read, and what is kept of it.
use Rattle.std.specs.Prelude.{ℕ, cond, List, [], ◌∷◌, ◌++◌, take, eqb}

-- the byte that ends a line
abbrev pub line_end : ℕ
line_end = 10

-- the open line after one more byte: behind a line's end it is empty
unfoldable pub open_on : List ℕ → ℕ → List ℕ
open_on o b = cond (eqb b line_end) [] (o ++ (b ∷ []))

-- what is kept of it after one more byte: no more than m bytes
unfoldable pub kept_on : ℕ → List ℕ → ℕ → List ℕ
kept_on m k b = cond (eqb b line_end) [] (take m (k ++ (b ∷ [])))

-- the open line after these bytes: those behind the last line's end, and where there is none, what was open before them too
unfoldable pub open_after : List ℕ → List ℕ → List ℕ
unfolding open_on
open_after o [] = o
open_after o (b ∷ s) = open_after (open_on o b) s

-- what is kept of it after these bytes; proofs/OpenLaws: the first m bytes of the open line
unfoldable pub kept_after : ℕ → List ℕ → List ℕ → List ℕ
unfolding kept_on
kept_after m k [] = k
kept_after m k (b ∷ s) = kept_after m (kept_on m k b) s
