-- A typed line's first max_kept_line bytes are split as the line is: a longer one is too long. So a line of any length is answered by what is kept of it.
use mathlib.Core.Path.{◌≡◌, refl, sym, ap, ◌∙◌}
use mathlib.Core.Bool.{Bool, true, false}
use mathlib.Core.List.{List}
use Prim.Native.Nat.{ℕ, ◌<◌}
use native.Mathlib.Omega.{arith}
use lib.Dec.{leb}
use lib.ListN.{length, take, length-take}
use lib.Seq.{take_all}
use borrow.Author.Tests.{leb-true, leb-false, lt-ltb}
use Rattle.splitter.specs.Splitting.{max_line, split_answer, splitting}
use Rattle.tokens.specs.Sizes.{max_kept_line}

too_long : (line list row : List ℕ) → max_line < length line → splitting line list row ≡ split_answer 15 0 0 row
unfolding splitting
too_long line list row h = rw (lt-ltb max_line (length line) h)

pub kept-splits : (line list row : List ℕ) → splitting (take max_kept_line line) list row ≡ splitting line list row
kept-splits line list row = go (leb (length line) max_kept_line) refl
  where
    go : (t : Bool) → leb (length line) max_kept_line ≡ t → splitting (take max_kept_line line) list row ≡ splitting line list row
    go true q = ap (λ (l : List ℕ). splitting l list row) (take_all max_kept_line line (leb-true (length line) max_kept_line q))
    go false q =
        let h = leb-false (length line) max_kept_line q in
        too_long (take max_kept_line line) list row (omega (arith, length-take max_kept_line line)) ∙ sym (too_long line list row (omega arith))
