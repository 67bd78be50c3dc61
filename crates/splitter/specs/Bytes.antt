-- The bytes of typed lines, told by their values with no table: letters, digits, the blank and marks.
use Rattle.std.specs.Prelude.{◌≡◌, ◌⊎◌, ℕ, ◌≤◌}
use Rattle.splitter.specs.Classes.{foreign, blank_class, mark_class, digit_class, letter_class}

-- A to Z and a to z
abbrev pub IsLetter : ℕ → Type 0
IsLetter b = ((65 ≤ b) × (b ≤ 90)) ⊎ ((97 ≤ b) × (b ≤ 122))

-- 0 to 9
abbrev pub IsDigit : ℕ → Type 0
IsDigit b = (48 ≤ b) × (b ≤ 57)

abbrev pub IsBlank : ℕ → Type 0
IsBlank b = b ≡ 32

-- the other values from 33 to 126
pub record IsMark (b : ℕ) : Type 0 where
  pub least : 33 ≤ b
  pub most : b ≤ 126
  pub no-letter : IsLetter b → ⊥
  pub no_digit : IsDigit b → ⊥

-- none of these
pub record IsForeign (b : ℕ) : Type 0 where
  pub no-letter : IsLetter b → ⊥
  pub no_digit : IsDigit b → ⊥
  pub no-blank : IsBlank b → ⊥
  pub no-mark : IsMark b → ⊥

-- what the class of b must be
pub data ClassIs (b : ℕ) : ℕ → Type 0 where
  letter : IsLetter b → ClassIs b letter_class
  digit : IsDigit b → ClassIs b digit_class
  mark : IsMark b → ClassIs b mark_class
  blank : IsBlank b → ClassIs b blank_class
  other : IsForeign b → ClassIs b foreign
