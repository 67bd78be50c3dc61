-- The library's version.
use Rattle.std.specs.Prelude.{ℕ, ◌+◌, ◌*◌}

abbrev major : ℕ
major = 1

abbrev minor : ℕ
minor = 4

abbrev patch : ℕ
patch = 0

-- the three as one number
abbrev pub version : ℕ
version = major * 10000 + minor * 100 + patch
