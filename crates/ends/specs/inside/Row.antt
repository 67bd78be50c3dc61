-- What the functions on one position may rely on, and what a look along a production gives.
use Rattle.std.specs.Prelude.{◌≡◌, Bool, List, ℕ, suc, ◌≤◌, ◌<◌, length, replicate}
use Rattle.base.specs.Rounds.{any_of}
use Rattle.grammar.specs.Grammar.{alternatives}
use Rattle.grammar.specs.inside.Tables.{grammar_in, nonterminals_in}
use Rattle.positions.specs.inside.Positions.{position_count, member}
use Rattle.derivation.specs.inside.Ready.{Ready}
use Rattle.order.specs.inside.Order.{InOrder}
use Rattle.cells.specs.inside.Chart.{cell_has, Lent, ChartedFrom}
use Rattle.ends.specs.inside.Ends.{end_words, end_has, lead, RightEnds}

-- at position i of the note w: the cells of the later positions are right
pub record Row (t w : List ℕ) (i : ℕ) (ws : List ℕ) : Type 0 where
  pub ready : Ready t
  pub lent : Lent (grammar_in t).size (length w) ws
  pub here : i ≤ length w
  pub later : ChartedFrom t w ws (suc i)

-- and the sets `ends` hold exactly where the productions that begin at i end
pub record EndsRight (t w : List ℕ) (i : ℕ) (ws ends : List ℕ) : Type 0 where
  pub row : Row t w i ws
  pub long : length ends ≡ end_words
  pub right : RightEnds t w i ends

-- a production is looked along from its place f on
pub record LooksFrom (t w : List ℕ) (i : ℕ) (ws ends : List ℕ) (f : ℕ) : Type 0 where
  pub row : Row t w i ws
  pub long : length ends ≡ end_words
  pub within : f < (grammar_in t).size

-- the productions of nonterminal a are looked along
pub record LooksAlong (t w : List ℕ) (i : ℕ) (ws ends : List ℕ) (a : ℕ) : Type 0 where
  pub row : Row t w i ws
  pub long : length ends ≡ end_words
  pub named : a < nonterminals_in t

-- the nonterminals are judged in order, from empty sets on
pub record Settles (t w : List ℕ) (i : ℕ) (ws order ends : List ℕ) : Type 0 where
  pub row : Row t w i ws
  pub lined : InOrder t order
  pub empty : ends ≡ replicate end_words 0

-- the cells as the words ws hold them
abbrev pub cells_in : List ℕ → List ℕ → ℕ → ℕ → ℕ → Bool
cells_in t ws = cell_has (grammar_in t).size ws

module _ (t w ws : List ℕ) (i : ℕ) (ends : List ℕ) where
  -- the production from place f on leads to j
  abbrev pub leads_to : ℕ → ℕ → Bool
  leads_to j f = lead (grammar_in t) w (end_has ends) (cells_in t ws) i j f

  -- some production of nonterminal a leads to j
  abbrev pub offers : ℕ → ℕ → Bool
  offers a j = any_of (leads_to j) (alternatives (grammar_in t) a)

  -- r is where the production from place f on leads to
  unfoldable pub LedTo : ℕ → List ℕ → Type 0
  unfolding lead
  LedTo f r = (j : ℕ) → j < position_count → member r j ≡ leads_to j f
