-- The cell of a place, by the ends of nonterminals, the cells of the later positions and the cell of the place behind it.
use Rattle.std.specs.Prelude.{◌≡◌, Bool, true, false, List, ℕ, suc, ◌<◌, length}
use Rattle.grammar.specs.declared.Symbol.{Symbol}
use Rattle.grammar.specs.declared.Symbol.TheVariants.{End, Token, Nonterminal}
use Rattle.grammar.specs.Grammar.{facing}
use Rattle.grammar.specs.inside.Tables.{grammar_in}
use Rattle.positions.specs.inside.Positions.{position_count, member}
use Rattle.derivation.specs.Cells.{derives?}
use Rattle.cells.specs.inside.Chart.{ChartedFrom, KeptBehind}
use Rattle.ends.specs.inside.Ends.{end_has, lead_by}
use Rattle.ends.specs.inside.Row.{cells_in, EndsRight}

-- what is faced at a production's end
abbrev pub is_end : Symbol → Bool
is_end End = true
is_end (Token k) = false
is_end (Nonterminal b) = false

-- the cells from position i on are right, and what stands behind all cells is as it was
pub record CellsSettled (t w : List ℕ) (i : ℕ) (ws after : List ℕ) : Type 0 where
  pub charted : ChartedFrom t w after i
  pub behind : KeptBehind (grammar_in t).size (length w) ws after

module _ (t w ws : List ℕ) (i : ℕ) where
  -- r is where place p leads to, by the cell of the place behind it
  unfoldable pub Derived : List ℕ → ℕ → List ℕ → Type 0
  unfolding lead_by
  Derived ends p r =
      (j : ℕ) → j < position_count
      → member r j ≡ lead_by (grammar_in t) w (end_has ends) (cells_in t ws) i j p (facing (grammar_in t) p) (cells_in t ws (suc p) i j)

  -- the cell of the place behind p is right
  unfoldable pub Behind : ℕ → Type 0
  Behind p = suc p < (grammar_in t).size → (j : ℕ) → j < position_count → cells_in t ws (suc p) i j ≡ derives? (grammar_in t) w (suc p) i j

  -- what the code goes by at place p: the ends of nonterminals, and the cell behind p
  pub record Deriving (ends : List ℕ) (p : ℕ) : Type 0 where
    pub ended : EndsRight t w i ws ends
    pub within : p < (grammar_in t).size
    pub behind : Behind p
