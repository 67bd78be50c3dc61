-- The working space that a reading is lent (the scope, refusals 8 and 11).
use Rattle.std.specs.Prelude.{ℕ, suc, ◌+◌, ◌*◌}

-- tokens of a note, n
abbrev pub max_tokens : ℕ
max_tokens = 128

-- words that a reading is lent: so many, and so many for each place and position
abbrev pub space_fixed : ℕ
space_fixed = 8192

abbrev pub space_each : ℕ
space_each = 8

-- for n tokens and a grammar of P places
abbrev pub space_words : ℕ → ℕ → ℕ
space_words P n = space_fixed + space_each * (P * suc n)
