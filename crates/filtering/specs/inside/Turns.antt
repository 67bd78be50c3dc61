-- The loop through one alternative, symbol by symbol: what is left of it at a place and a position, or at a place and a set of positions.
use Rattle.std.specs.Prelude.{◌↔◌, Bool, List, ℕ, ◌≤◌, T}
use Rattle.grammar.specs.Grammar.{Grammar}
use Rattle.first_follow.specs.inside.Masks.{Masks}
use Rattle.filtering.specs.inside.Beginnings.{token_at}
use Rattle.filtering.specs.inside.Filtered.{Ends, EndsBy}
use Rattle.filtering.specs.inside.Cover.{CoveredFrom}

-- ---- ends
-- the ends of alternative b of (a, i) are those of place p from j whose token may follow a
abbrev pub Turn : Grammar → Masks → List ℕ → ℕ → ℕ → ℕ → ℕ → ℕ → Type 0
Turn g M w a i b p j = (m : ℕ) → EndsBy g M w a i b m ↔ (Ends g M w p j m × T (M.follows (token_at w m) a))

-- ---- coverage
-- whatever covers what is left at place p from j covers the alternative from its first place f at i
abbrev pub Rest : Grammar → Masks → List ℕ → (ℕ → ℕ → Bool) → ℕ → ℕ → ℕ → ℕ → Type 0
Rest g M w done f i p j = (h : ℕ) → j ≤ h → CoveredFrom g M w done h p j → CoveredFrom g M w done h f i

-- whatever covers what is left at place p from the members of X covers it, if it is not below `low`
abbrev pub RestFrom : Grammar → Masks → List ℕ → (ℕ → ℕ → Bool) → ℕ → ℕ → (ℕ → Type 0) → ℕ → ℕ → Type 0
RestFrom g M w done f i X p low = (h : ℕ) → low ≤ h → ((m : ℕ) → X m → m ≤ h) → ((m : ℕ) → X m → CoveredFrom g M w done h p m) → CoveredFrom g M w done h f i
