-- What splitting a line answers, for any bytes, list and row: the scope's refusals in their order, as one executable definition.
use Rattle.std.specs.Prelude.{ℕ, ◌-◌, cond, List, ◌++◌, length, replicate, ltb}
use Rattle.std.proofs.Math.Option.{Option, none, some}
use Rattle.splitter.specs.Listing.{list_of}
use Rattle.splitter.specs.Items.{max_split, kinds_of, first_foreign}

-- the most bytes of a line
abbrev pub max_line : ℕ
max_line = 512

-- what splitting answers, and the row that it leaves
pub record SplitAnswer : Type 0 where
  pub number : ℕ
  pub place : ℕ
  pub count : ℕ
  pub row : List ℕ

abbrev pub split_answer : ℕ → ℕ → ℕ → List ℕ → SplitAnswer
split_answer n p c r = record { number = n; place = p; count = c; row = r }

-- 14, where the kinds do not fit the row: zeros; else the kinds, and zeros behind them
unfoldable pub from14 : List ℕ → List ℕ → SplitAnswer
from14 row ks =
    cond (ltb (length row) (length ks)) (split_answer 14 0 0 (replicate (length row) 0))
    (split_answer 0 0 (length ks) (ks ++ replicate (length row - length ks) 0))

-- 8, where there are too many kinds
unfoldable pub from8 : List ℕ → List ℕ → SplitAnswer
unfolding from14
from8 row ks = cond (ltb max_split (length ks)) (split_answer 8 0 0 row) (from14 row ks)

-- 16, where a byte is foreign
unfoldable pub on_foreign : List ℕ → List ℕ → List (List ℕ) → Option ℕ → SplitAnswer
unfolding from8 kinds_of
on_foreign line row ws (some at) = split_answer 16 at 0 row
on_foreign line row ws none = from8 row (kinds_of ws line)

unfoldable pub from16 : List ℕ → List ℕ → List (List ℕ) → SplitAnswer
unfolding on_foreign first_foreign
from16 line row ws = on_foreign line row ws (first_foreign line)

-- 17, where the list is not one
unfoldable pub from17 : List ℕ → List ℕ → Option (List (List ℕ)) → SplitAnswer
unfolding from16
from17 line row none = split_answer 17 0 0 row
from17 line row (some ws) = from16 line row ws

-- the splitting of a line by a list: 15, where the line is too long, and then the others
unfoldable pub splitting : List ℕ → List ℕ → List ℕ → SplitAnswer
unfolding from17 list_of
splitting line list row = cond (ltb max_line (length line)) (split_answer 15 0 0 row) (from17 line row (list_of list))
