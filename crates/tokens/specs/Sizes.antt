-- How many bytes of the list's line and of a typed line are kept.
use Rattle.std.specs.Prelude.{ℕ, suc}
use Rattle.splitter.specs.Splitting.{max_line}

abbrev pub max_list : ℕ
max_list = 65536

-- one more than a line may have: proofs/KeptLaws
abbrev pub max_kept_line : ℕ
max_kept_line = suc max_line
