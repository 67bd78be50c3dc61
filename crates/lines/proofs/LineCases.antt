-- Lines at the edges of the definition, each with what it says.
use mathlib.Core.Path.{◌≡◌, refl}
use mathlib.Core.List.{List, [], ◌∷◌, map}
use mathlib.Core.Option.{Option, none, some}
use Prim.Native.Nat.{ℕ, zero, suc}
use lib.ListN.{replicate}
use Rattle.lines.specs.Line.{line_of}

-- a line's bytes, and what it says
pub record Case : Type 0 where
  pub bytes : List ℕ
  pub says : Option (List ℕ)

abbrev case : List ℕ → Option (List ℕ) → Case
case bytes says = record { bytes = bytes; says = says }

-- so many more tokens, each 1
abbrev ones : ℕ → List ℕ
ones zero = []
ones (suc n) = 32 ∷ 49 ∷ ones n

unfoldable pub cases : List Case
cases =
    -- no byte, `1 2 2`, `00001`, `0`
    case [] (some [])
    ∷ case (49 ∷ 32 ∷ 50 ∷ 32 ∷ 50 ∷ []) (some (1 ∷ 2 ∷ 2 ∷ []))
    ∷ case (48 ∷ 48 ∷ 48 ∷ 48 ∷ 49 ∷ []) (some (1 ∷ []))
    ∷ case (48 ∷ []) (some (0 ∷ []))
    -- `65535`, `65536`, `000001`
    ∷ case (54 ∷ 53 ∷ 53 ∷ 51 ∷ 53 ∷ []) (some (65535 ∷ []))
    ∷ case (54 ∷ 53 ∷ 53 ∷ 51 ∷ 54 ∷ []) none
    ∷ case (48 ∷ 48 ∷ 48 ∷ 48 ∷ 48 ∷ 49 ∷ []) none
    -- a blank alone, before, behind, and two between
    ∷ case (32 ∷ []) none
    ∷ case (32 ∷ 49 ∷ []) none
    ∷ case (49 ∷ 32 ∷ []) none
    ∷ case (49 ∷ 32 ∷ 32 ∷ 50 ∷ []) none
    -- byte 13 behind, a tab between
    ∷ case (49 ∷ 13 ∷ []) none
    ∷ case (49 ∷ 9 ∷ 50 ∷ []) none
    -- sixteen tokens, seventeen
    ∷ case (49 ∷ ones 15) (some (replicate 16 1))
    ∷ case (49 ∷ ones 16) none
    ∷ []

-- every line says what its case has
pub cases-hold : map (λ (c : Case). line_of c.bytes) cases ≡ map (λ (c : Case). c.says) cases
unfolding line_of cases
cases-hold = refl
