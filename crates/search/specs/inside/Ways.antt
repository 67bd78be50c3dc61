-- Where a production leads from a position, as far as single ends lead.
use Rattle.std.specs.Prelude.{◌≡◌, ◌↔◌, List, ℕ, suc, ◌≤◌, ◌<◌, T, length}
use Rattle.grammar.specs.declared.Symbol.TheVariants.{Nonterminal}
use Rattle.grammar.specs.Grammar.{facing}
use Rattle.grammar.specs.inside.Tables.{grammar_in, nonterminals_in}
use Rattle.positions.specs.inside.Positions.{member}
use Rattle.derivation.specs.Runs.{marked}
use Rattle.first_follow.specs.inside.Words.{masks_in}
use Rattle.filtering.specs.inside.Filtered as ends
use Rattle.filtering.specs.inside.Cover.{Walks, CoveredFrom}
use Rattle.filtering.specs.inside.Turns.{RestFrom}
use Rattle.search.specs.inside.Searching.{Searching, Sized, state_of, set_of}
use Rattle.search.specs.declared.words.Size.{Size}
use Rattle.search.specs.declared.given.Search.{Search}
use Rattle.search.specs.declared.ways.Way.{Way}
use Rattle.search.specs.declared.ways.Way.TheVariants.{Ends, Nowhere, Needs, Several}

-- place f of the grammar may be gone on from at position i
pub record MayGo (t w ms ws : List ℕ) (s : Size) (f i : ℕ) : Type 0 where
  pub searching : Searching t w ms ws
  pub sized : Sized t w s
  pub place : f < (grammar_in t).size
  pub position : i ≤ length w

module _ (t w ms ws : List ℕ) (f i : ℕ) where
  -- symbol by symbol a place and the position j are come to
  pub record CameTo (j : ℕ) : Type 0 where
    pub within : j ≤ length w
    pub place : ℕ
    pub walks : Walks (grammar_in t) (masks_in ms) (marked w) f i place j

  -- whatever is not below j covers the production from place f at i
  abbrev pub CoveredAt : ℕ → Type 0
  CoveredAt j = (h : ℕ) → j ≤ h → CoveredFrom (grammar_in t) (masks_in ms) (marked w) (state_of t w ws).done h f i

  -- its only end is j
  pub record EndsAt (j : ℕ) : Type 0 where
    pub came : CameTo j
    pub ends : (m : ℕ) → ends.Ends (grammar_in t) (masks_in ms) (marked w) f i m ↔ (m ≡ j)
    pub cover : CoveredAt j

  -- it has no end, and came to j
  pub record EndsNowhere (j : ℕ) : Type 0 where
    pub came : CameTo j
    pub none : (m : ℕ) → ¬ ends.Ends (grammar_in t) (masks_in ms) (marked w) f i m
    pub cover : CoveredAt j

  -- it comes to where nonterminal b is called at j, and that pair is not worked out
  pub record Lacks (b j : ℕ) : Type 0 where
    pub came : CameTo j
    pub faces : facing (grammar_in t) came.place ≡ Nonterminal b
    pub named : b < nonterminals_in t
    pub undone : ¬ T ((state_of t w ws).done b j)

  -- it comes to where nonterminal b is called at j, and goes on at place q behind it from the several ends of that pair, which is worked out
  pub record GoesOn (q b j : ℕ) : Type 0 where
    pub came : CameTo j
    pub faces : facing (grammar_in t) came.place ≡ Nonterminal b
    pub behind : q ≡ suc came.place
    pub within : q < (grammar_in t).size
    pub named : b < nonterminals_in t
    pub done : T ((state_of t w ws).done b j)
    pub pair : (m : ℕ) → ends.PairEnds (grammar_in t) (masks_in ms) (marked w) b j m ↔ T (member (set_of t w ws b j) m)
    pub members : (m : ℕ) → T (member (set_of t w ws b j) m) → m ≤ length w
    pub ends : (m : ℕ) → ends.Ends (grammar_in t) (masks_in ms) (marked w) f i m
        ↔ ends.EndsFrom (grammar_in t) (masks_in ms) (marked w) (λ x. T (member (set_of t w ws b j) x)) q m
    pub cover : RestFrom (grammar_in t) (masks_in ms) (marked w) (state_of t w ws).done f i (λ x. T (member (set_of t w ws b j) x)) q j

  -- as the code says it
  abbrev pub Went : Way → Type 0
  Went (Ends j) = EndsAt j
  Went (Nowhere j) = EndsNowhere j
  Went (Needs p) = Lacks p.nonterminal p.position
  Went (Several q p) = GoesOn q p.nonterminal p.position

-- the same of what the code holds
abbrev pub Goes : Search → List ℕ → ℕ → ℕ → Type 0
Goes s ws f i = MayGo s.tables.now s.note.now s.masks.now ws s.size f i

abbrev pub WentBy : Search → List ℕ → ℕ → ℕ → Way → Type 0
WentBy s ws f i r = Went s.tables.now s.note.now s.masks.now ws f i r
