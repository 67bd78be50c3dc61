-- What the parser's caller knows of the count.
use mathlib.Core.Path.{◌≡◌}
use Prim.Native.Nat.{ℕ, ◌≤◌}
use Rattle.lines.specs.Line.{max_line_tokens}
use Rattle.lines.specs.inside.Parsed.{line_count}
use Rattle.std.specs.Prelude.{Option, Some}

pub count_most : {l : Option ℕ} (n : ℕ) → line_count l ≤ max_line_tokens → l ≡ Some n → n ≤ max_line_tokens
count_most n h e = rw e at h
