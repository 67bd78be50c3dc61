-- What is lent to a batch fits together, test by test in the code's order.
use mathlib.Core.Path.{◌≡◌}
use mathlib.Core.Bool.{false}
use mathlib.Core.List.{List}
use Prim.Native.Nat.{ℕ, ◌+◌, ◌*◌, ◌%◌, ◌≤◌, ◌<◌}
use native.Mathlib.Numerals.{add-one}
use lib.Dec.{eqb}
use lib.ListN.{length, get_or, drop, drop_of_length-le}
use lib.Seq.{drop-cons}
use borrow.Author.Tests.{le-leb, lt-leb, eq-eqb, ne_eqb}
use Rattle.batch.specs.Batches.{max_notes, answers_each, total, fits?}

-- ---- the tokens of the notes that are left
pub total-next : (ls : List ℕ) (k : ℕ) → k < length ls → total (drop k ls) ≡ get_or ls k 0 + total (drop (k + 1) ls)
unfolding total
total-next ls k l = rw (drop-cons ls k 0 l, add-one)

pub total-none : (ls : List ℕ) (k : ℕ) → length ls ≤ k → total (drop k ls) ≡ 0
unfolding total
total-none ls k l = rw (drop_of_length-le ls l)

-- ---- 18
module _ (tokens lengths answers row : List ℕ) where
  pub no_note : length lengths ≡ 0 → false ≡ fits? tokens lengths answers row
  unfolding fits?
  no_note e = rw (e)

  module _ (some : 1 ≤ length lengths) where
    pub many-notes : max_notes < length lengths → false ≡ fits? tokens lengths answers row
    unfolding fits?
    many-notes l = rw (le-leb 1 (length lengths) some, lt-leb (length lengths) max_notes l)

    module _ (few : length lengths ≤ max_notes) where
      pub other-total : ¬ (total lengths ≡ length tokens) → false ≡ fits? tokens lengths answers row
      unfolding fits?
      other-total n = rw (le-leb 1 (length lengths) some, le-leb (length lengths) max_notes few, ne_eqb (total lengths) (length tokens) n)

      module _ (adds-up : total lengths ≡ length tokens) where
        pub other-answers : ¬ (length answers ≡ answers_each * length lengths) → false ≡ fits? tokens lengths answers row
        unfolding fits?
        other-answers n =
            rw (
              le-leb 1 (length lengths) some,
              le-leb (length lengths) max_notes few,
              eq-eqb (total lengths) (length tokens) adds-up,
              ne_eqb (length answers) (answers_each * length lengths) n,
            )

        pub by_row : length answers ≡ answers_each * length lengths → eqb (length row % length lengths) 0 ≡ fits? tokens lengths answers row
        unfolding fits?
        by_row e =
            rw (
              le-leb 1 (length lengths) some,
              le-leb (length lengths) max_notes few,
              eq-eqb (total lengths) (length tokens) adds-up,
              eq-eqb (length answers) (answers_each * length lengths) e,
            )
