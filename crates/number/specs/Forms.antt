-- What can be left of the bytes where a number is due, in the scope's words: they end before the number does (1), or the number is not written as it
-- must be (2), or they begin with its shortest form. proofs/FormLaws says that `number_at` tells exactly these apart.
use Rattle.std.specs.Prelude.{◌≡◌, List, [], ◌∷◌, ◌++◌, ℕ, ◌+◌, ◌*◌, ◌%◌, ◌≤◌, ◌<◌, length, get_or}
use Rattle.number.specs.Number.{shortest, max_number}

-- every element is a byte
abbrev pub Bytes : List ℕ → Type 0
Bytes s = (i : ℕ) → get_or s i 0 < 256

-- 1: the bytes are a beginning of some number's shortest form, and not all of it
abbrev pub CutShort : List ℕ → Type 0
CutShort l = (v : ℕ) × (missing : List ℕ) × (v ≤ max_number) × (1 ≤ length missing) × (l ++ missing ≡ shortest v)

-- a number in groups, in any form: each byte but the last says that another follows
abbrev pub Groups : List ℕ → Type 0
Groups [] = ⊥
Groups (a ∷ []) = a < 128
Groups (a ∷ b ∷ l) = (128 ≤ a) × Groups (b ∷ l)

-- the number that groups write, lowest group first
unfoldable pub joined_groups : List ℕ → ℕ
joined_groups [] = 0
joined_groups (a ∷ l) = a % 128 + joined_groups l * 128

-- 2: the bytes begin with a number that is longer than its shortest form, that has a third byte which announces a fourth, or that is above 65,535
pub data Misspelled (l : List ℕ) : Type 0 where
  longer : (g more : List ℕ) → l ≡ g ++ more → Groups g → length (shortest (joined_groups g)) < length g → Misspelled l
  announces : (a b c : ℕ) (more : List ℕ) → l ≡ a ∷ b ∷ c ∷ more → 128 ≤ a → 128 ≤ b → 128 ≤ c → Misspelled l
  above : (g more : List ℕ) → l ≡ g ++ more → Groups g → max_number < joined_groups g → Misspelled l
