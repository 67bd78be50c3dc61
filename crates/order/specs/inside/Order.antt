-- Nonterminals in a row, each behind its left corners: the nonterminals that may stand first in what it derives.
use Rattle.std.specs.Prelude.{◌≡◌, List, ℕ, ◌≤◌, ◌<◌, T, length, get_or}
use Rattle.grammar.specs.Grammar.{Grammar}
use Rattle.grammar.specs.inside.Tables.{grammar_in, nonterminals_in}
use Rattle.corners.specs.Corners.{move?}

-- a is one of the first k of the row
abbrev pub Among : List ℕ → ℕ → ℕ → Type 0
Among row k a = (m : ℕ) × (m < k) × (get_or row m 0 ≡ a)

-- the first k of the row are nonterminals below n, no two of them alike, each behind its left corners
pub record Lined (g : Grammar) (n : ℕ) (row : List ℕ) (k : ℕ) : Type 0 where
  pub named : (m : ℕ) → m < k → get_or row m 0 < n
  pub once : (m : ℕ) → m < k → ¬ Among row m (get_or row m 0)
  pub behind : (m c : ℕ) → m < k → T (move? g (get_or row m 0) c) → Among row m c

-- every nonterminal of the tables stands in the row, and they are lined up
pub record InOrder (t : List ℕ) (row : List ℕ) : Type 0 where
  pub room : nonterminals_in t ≤ length row
  pub lined : Lined (grammar_in t) (nonterminals_in t) row (nonterminals_in t)
  pub every : (a : ℕ) → a < nonterminals_in t → Among row (nonterminals_in t) a
