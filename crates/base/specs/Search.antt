-- The lowest number with a property: as a search, and as what the search must find. And a test of all numbers of a range.
use Rattle.std.specs.Prelude.{Bool, true, false, ◌&&◌, ℕ, zero, suc, ◌≤◌}
use Rattle.std.specs.Prelude.{Option as Answer, Some, None}
use Rattle.std.proofs.Math.Option.{Option, none, some}

-- the lowest of the n numbers from i on that passes the test
unfoldable pub lowest_from : (ℕ → Bool) → ℕ → ℕ → Option ℕ
lowest_from p i zero = none
lowest_from p i (suc n) = elim (p i) [ true ↦ some i | false ↦ lowest_from p (suc i) n ]

-- `some a`: a is the lowest number with the property; `none`: no number has it
pub data LowestIs (P : ℕ → Type 0) : Option ℕ → Type 0 where
  this : (a : ℕ) → P a → ((c : ℕ) → P c → a ≤ c) → LowestIs P (some a)
  nothing : ((c : ℕ) → ¬ P c) → LowestIs P none

-- all of the n numbers from i on pass the test; a later one is asked only if those before it pass
unfoldable pub all_from : (ℕ → Bool) → ℕ → ℕ → Bool
all_from p i zero = true
all_from p i (suc n) = let rest = all_from p (suc i) n in p i && rest

-- what a search finds, as code answers it
abbrev pub found : {A : Type 0} → Option A → Answer A
found none = None
found (some x) = Some x
