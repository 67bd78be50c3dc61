-- An input whose first line stands apart, as the list of words does before typed lines: that line, what is behind it, and what is kept of both.
use Rattle.std.specs.Prelude.{ℕ, Bool, true, false, cond, List, [], ◌∷◌, ◌++◌, take, eqb}
use Rattle.lines.specs.Kept.{line_end, kept_on}

-- the first line of these bytes, without its end
unfoldable pub first_line : List ℕ → List ℕ
first_line [] = []
first_line (b ∷ s) = cond (eqb b line_end) [] (b ∷ first_line s)

-- the bytes behind the first line's end: none where it has no end
unfoldable pub behind_first : List ℕ → List ℕ
behind_first [] = []
behind_first (b ∷ s) = cond (eqb b line_end) s (behind_first s)

-- these bytes have no line's end
unfoldable pub one_line? : List ℕ → Bool
one_line? [] = true
one_line? (b ∷ s) = cond (eqb b line_end) false (one_line? s)

-- whether the first line is still open, what is kept of it, and what is kept of the open line behind it
pub record Headed : Type 0 where
  pub is_open : Bool
  pub head : List ℕ
  pub tail : List ℕ

abbrev pub headed : Bool → List ℕ → List ℕ → Headed
headed o h t = record { is_open = o; head = h; tail = t }

-- after one more byte: no more than m bytes of the first line are kept, and n of another
abbrev pub head_on : ℕ → List ℕ → List ℕ → ℕ → Headed
head_on m h t b = cond (eqb b line_end) (headed false h t) (headed true (take m (h ++ (b ∷ []))) t)

unfoldable pub headed_on : ℕ → ℕ → Headed → ℕ → Headed
unfolding kept_on
headed_on m n x b = cond x.is_open (head_on m x.head x.tail b) (headed false x.head (kept_on n x.tail b))

-- after these bytes; proofs/HeadedLaws: the first bytes of the first line, and of the line that is open behind it
unfoldable pub headed_after : ℕ → ℕ → Headed → List ℕ → Headed
unfolding headed_on
headed_after m n x [] = x
headed_after m n x (b ∷ s) = headed_after m n (headed_on m n x b) s
