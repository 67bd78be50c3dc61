-- The derivation cells in the working space, and when they are right.
use Rattle.std.specs.Prelude.{◌≡◌, Bool, List, ℕ, suc, ◌+◌, ◌*◌, ◌≤◌, ◌<◌, length, get_or}
use Rattle.base.specs.Rounds.{any_of}
use Rattle.grammar.specs.Grammar.{alternatives}
use Rattle.grammar.specs.inside.Tables.{grammar_in, nonterminals_in}
use Rattle.positions.specs.inside.Positions.{position_count, set_words, member}
use Rattle.positions.specs.inside.Words.{member_at}
use Rattle.derivation.specs.Cells.{derives?}
use Rattle.derivation.specs.Space.{max_tokens, space_words}
use Rattle.derivation.specs.inside.Ready.{Ready}

-- where the cell of place p at position i stands, of P places
abbrev pub spot : ℕ → ℕ → ℕ → ℕ
spot P p i = set_words * (i * P + p)

-- the words of all cells, of P places and a note of n tokens; what stands behind them is no cell
abbrev pub cells_end : ℕ → ℕ → ℕ
cells_end P n = set_words * (suc n * P)

-- position j is in the cell of place p at position i
unfoldable pub cell_has : ℕ → List ℕ → ℕ → ℕ → ℕ → Bool
cell_has P ws p i j = member_at ws (spot P p i) j

-- working space for a note of n tokens and P places
pub record Lent (P n : ℕ) (ws : List ℕ) : Type 0 where
  pub short : n ≤ max_tokens
  pub room : space_words P n ≤ length ws

-- working space for some note that has the position i
pub record LentAt (P i : ℕ) (ws : List ℕ) : Type 0 where
  pub tokens : ℕ
  pub lent : Lent P tokens ws
  pub here : i ≤ tokens

-- what the code goes by where nonterminal a of the grammar is to be read at position i
pub record Awaits (t ws : List ℕ) (a i : ℕ) : Type 0 where
  pub ready : Ready t
  pub lent : LentAt (grammar_in t).size i ws
  pub named : a < nonterminals_in t

-- the cells from position i on are right: each holds exactly the positions up to which its place derives the note w
unfoldable pub ChartedFrom : List ℕ → List ℕ → List ℕ → ℕ → Type 0
ChartedFrom t w ws i =
    (p k j : ℕ) → p < (grammar_in t).size → i ≤ k → k ≤ length w → j < position_count → cell_has (grammar_in t).size ws p k j
    ≡ derives? (grammar_in t) w p k j

-- all cells are right
abbrev pub Charted : List ℕ → List ℕ → List ℕ → Type 0
Charted t w ws = ChartedFrom t w ws 0

-- r is the set of where the productions of nonterminal a that begin at i end
unfoldable pub EndsOf : List ℕ → List ℕ → ℕ → ℕ → List ℕ → Type 0
EndsOf t ws a i r = (j : ℕ) → j < position_count → member r j ≡ any_of (λ f. cell_has (grammar_in t).size ws f i j) (alternatives (grammar_in t) a)

-- every word behind the cells is as it was
pub record KeptBehind (P n : ℕ) (ws after : List ℕ) : Type 0 where
  pub word : (j : ℕ) → cells_end P n ≤ j → get_or after j 0 ≡ get_or ws j 0

-- filling leaves all cells right, and what stands behind them as it was
pub record Filled (t w ws after : List ℕ) : Type 0 where
  pub charted : Charted t w after
  pub kept : length after ≡ length ws
  pub behind : (j : ℕ) → cells_end (grammar_in t).size (length w) ≤ j → get_or after j 0 ≡ get_or ws j 0
