-- What the loops of the code do, turn by turn. Internal: proofs/ says that the ends are those of Corners.
use Rattle.std.specs.Prelude.{◌≡◌, false, cond, ◌||◌, List, ℕ, zero, suc, ◌≤◌, ◌<◌, length, get_or, set, T, eqb}
use Rattle.std.specs.Int.Bits.{bit_or}
use Rattle.base.specs.Bits.{test_bit}
use Rattle.base.specs.Rounds.{any_of}
use Rattle.grammar.specs.declared.Symbol.{Symbol}
use Rattle.grammar.specs.Grammar.{Grammar, alternatives, suffix}
use Rattle.grammar.specs.Limits.{max_nonterminals}
use Rattle.grammar.specs.inside.Tables.{grammar_in, nonterminals_in, TablesFit, SameTables, Bare, corner_row}
use Rattle.closures.specs.inside.Steps.{Empties, DerivingIs}
use Rattle.corners.specs.Corners.{leads, Corners}

-- r is x with what stands in the list behind only members of `nullable`
unfoldable pub LeadsTo : ℕ → ℕ → List Symbol → ℕ → Type 0
LeadsTo nullable x l r = (c : ℕ) → test_bit r c ≡ (test_bit x c || leads (test_bit nullable) c l)

-- r is the set of where one move leads from a
unfoldable pub MovesFrom : ℕ → Grammar → ℕ → ℕ → Type 0
MovesFrom nullable g a r = (c : ℕ) → test_bit r c ≡ any_of (λ f. leads (test_bit nullable) c (suffix g f)) (alternatives g a)

-- a row of such sets, one for each nonterminal below n
unfoldable pub MoveRows : ℕ → Grammar → ℕ → List ℕ → Type 0
unfolding MovesFrom
MoveRows nullable g n rows = (a : ℕ) → a < n → MovesFrom nullable g a (get_or rows a 0)

-- x holds every nonterminal below n whose row holds anything
unfoldable pub LedIs : List ℕ → ℕ → ℕ → Type 0
LedIs rows n x = (a : ℕ) → a < n → test_bit x a ≡ false → get_or rows a 0 ≡ 0

-- tables t hold the first n rows, and say what tables t₀ say
pub record Stored (t₀ rows : List ℕ) (n : ℕ) (t : List ℕ) : Type 0 where
  pub kept : SameTables t₀ t
  pub same : (a : ℕ) → a < n → corner_row t a ≡ get_or rows a 0

-- what stands first in the productions of the nonterminals below n: a row for each; the set of those with an empty production; and that of those whose row
-- holds anything
pub record FirstsAre (g : Grammar) (n empty led : ℕ) (rows : List ℕ) : Type 0 where
  pub moves : MoveRows 0 g n rows
  pub empties : Empties g n empty
  pub few : (a : ℕ) → T (test_bit led a) → a < n
  pub led-is : LedIs rows n led

-- the sets and rows that are found in tables t
pub record Found (t : List ℕ) (nullable led : ℕ) (rows : List ℕ) : Type 0 where
  pub vanish : DerivingIs false (grammar_in t) nullable
  pub firsts : MoveRows 0 (grammar_in t) (nonterminals_in t) rows
  pub led-is : LedIs rows (nonterminals_in t) led

-- what widening rows starts from: tables without left corners, the nonterminals that derive the empty row, the rows of what stands first, and those of them
-- that may hold anything
pub record Widening (t : List ℕ) (nullable led : ℕ) (rows : List ℕ) : Type 0 where
  pub fits : TablesFit t
  pub bare : Bare t
  pub vanish : DerivingIs false (grammar_in t) nullable
  pub long : length rows ≡ max_nonterminals
  pub firsts : MoveRows 0 (grammar_in t) (nonterminals_in t) rows
  pub led-is : LedIs rows (nonterminals_in t) led

-- rows say where one move leads; tables t hold them, and say what tables t₀ say
pub record Widened (t₀ rows t : List ℕ) : Type 0 where
  pub corners : Corners (grammar_in t₀) (nonterminals_in t₀) rows
  pub stored : Stored t₀ rows (nonterminals_in t₀) t

-- row a is joined by `row`, which is that of b, if it holds b
unfoldable pub join_of : ℕ → ℕ → ℕ → List ℕ → List ℕ
join_of row b a rows = cond (test_bit (get_or rows a 0) b) (set rows a (bit_or (get_or rows a 0) row)) rows

-- what joining through b starts from: n rows of those that there can be, and b may be any of these
pub record Joining (n b : ℕ) (rows : List ℕ) : Type 0 where
  pub few : n ≤ max_nonterminals
  pub named : b < max_nonterminals
  pub long : length rows ≡ max_nonterminals

-- so are the rows below a
unfoldable pub pivot_below : ℕ → ℕ → ℕ → List ℕ → List ℕ
pivot_below row b zero rows = rows
pivot_below row b (suc a) rows = join_of row b a (pivot_below row b a rows)

-- of n rows, through b; an empty row joins nothing
unfoldable pub pivot_of : ℕ → ℕ → List ℕ → List ℕ
pivot_of n b rows = cond (eqb (get_or rows b 0) 0) rows (pivot_below (get_or rows b 0) b n rows)

-- through each nonterminal below b, in turn
unfoldable pub reach_of : ℕ → ℕ → List ℕ → List ℕ
reach_of n zero rows = rows
reach_of n (suc b) rows = pivot_of n b (reach_of n b rows)
