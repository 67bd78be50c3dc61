-- WHAT A READER BELIEVES OF `split`: each answer, in the scope's order, told with no computed test.
use Rattle.std.specs.Prelude.{◌≡◌, List, ◌++◌, ℕ, ◌-◌, ◌≤◌, ◌<◌, length, replicate}
use Rattle.std.proofs.Math.Option.{some}
use Rattle.std.proofs.Math.ListN.{get_elem?}
use Rattle.base.specs.Search.{LowestIs}
use Rattle.splitter.specs.Bytes.{IsForeign}
use Rattle.splitter.specs.Items.{max_split}
use Rattle.splitter.specs.Cutting.{Cut, Kinds}
use Rattle.splitter.specs.List.{IsList}
use Rattle.splitter.specs.Splitting.{max_line, SplitAnswer, split_answer}

-- byte i of a line is foreign
pub data ForeignAt (line : List ℕ) (i : ℕ) : Type 0 where
  byte : (b : ℕ) → get_elem? line i ≡ some b → IsForeign b → ForeignAt line i

-- a line that comes to its items: it is not too long, and the list is one
pub record Splittable (line list : List ℕ) (ws : List (List ℕ)) : Type 0 where
  pub short : length line ≤ max_line
  pub is-list : IsList list ws

-- a line, a list and a row get this answer; proofs/SplitsLaws: exactly that of `splitting`
pub data Splits (line list row : List ℕ) : SplitAnswer → Type 0 where
  -- 15: the line is too long
  long-line : max_line < length line → Splits line list row (split_answer 15 0 0 row)
  -- 17: the list is none
  bad-list : length line ≤ max_line → ((ws : List (List ℕ)) → ¬ IsList list ws) → Splits line list row (split_answer 17 0 0 row)
  -- 16: a byte is foreign, at the first
  foreign-byte : (ws : List (List ℕ)) (at : ℕ) → Splittable line list ws → LowestIs (ForeignAt line) (some at) → Splits line list row (split_answer 16 at 0 row)
  -- 8: too many items; a line that is cut has no foreign byte
  long-note : (ws us : List (List ℕ)) → Splittable line list ws → Cut line us → max_split < length us → Splits line list row (split_answer 8 0 0 row)
  -- 14: more items than the row has entries, which are all zeros then
  short_row : (ws us : List (List ℕ)) → Splittable line list ws → Cut line us → length us ≤ max_split → length row < length us
      → Splits line list row (split_answer 14 0 0 (replicate (length row) 0))
  -- accepted: the kinds of the items, and zeros behind them
  split : (ws us : List (List ℕ)) (ks : List ℕ) → Splittable line list ws → Cut line us → Kinds ws us ks → length ks ≤ max_split → length ks ≤ length row
      → Splits line list row (split_answer 0 0 (length ks) (ks ++ replicate (length row - length ks) 0))
