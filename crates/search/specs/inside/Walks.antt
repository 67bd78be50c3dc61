-- Where a set of positions leads, over one symbol and along a production.
use Rattle.std.specs.Prelude.{◌≡◌, ◌↔◌, ◌⊎◌, List, ℕ, ◌≤◌, ◌<◌, T, length, Result, Ok, Err}
use Rattle.grammar.specs.declared.Symbol.{Symbol}
use Rattle.grammar.specs.declared.Symbol.TheVariants.{Nonterminal, End}
use Rattle.grammar.specs.Grammar.{facing}
use Rattle.grammar.specs.inside.Tables.{grammar_in, nonterminals_in}
use Rattle.positions.specs.declared.Positions.{Positions}
use Rattle.positions.specs.inside.Positions.{member}
use Rattle.derivation.specs.Runs.{marked}
use Rattle.first_follow.specs.inside.Words.{masks_in}
use Rattle.filtering.specs.inside.Filtered.{EndsFrom, Leads}
use Rattle.filtering.specs.inside.Cover as cover
use Rattle.search.specs.inside.Searching.{Searching, Sized, state_of}
use Rattle.search.specs.declared.words.Size.{Size}
use Rattle.search.specs.declared.meter.Meter.{Meter}
use Rattle.search.specs.declared.given.Search.{Search}
use Rattle.search.specs.declared.walking.Halt.{Halt}
use Rattle.search.specs.declared.walking.Halt.TheVariants.{Needs, Out}

-- a set of positions of the note
abbrev pub Within : List ℕ → List ℕ → Type 0
Within w x = (m : ℕ) → T (member x m) → m ≤ length w

-- the positions of the set x may be gone on from at place p of the grammar
pub record MayWalk (t w ms ws : List ℕ) (s : Size) (p : ℕ) (x : List ℕ) : Type 0 where
  pub searching : Searching t w ms ws
  pub sized : Sized t w s
  pub place : p < (grammar_in t).size
  pub within : Within w x

-- the same over the symbol that it faces, which is no end
pub record MayPass (t w ms ws : List ℕ) (s : Size) (p : ℕ) (x : List ℕ) (symbol : Symbol) : Type 0 where
  pub walk : MayWalk t w ms ws s p x
  pub faces : facing (grammar_in t) p ≡ symbol
  pub goes : ¬ (symbol ≡ End)

-- no budget comes back
abbrev pub Spent : Meter → Meter → Type 0
Spent m after = after.left ≤ m.left

module _ (t w ms ws : List ℕ) (p : ℕ) (x : List ℕ) where
  -- some walk from a member of x at place p comes to place q at position j
  abbrev pub WalksTo : ℕ → ℕ → Type 0
  WalksTo q j = (m : ℕ) × T (member x m) × cover.Walks (grammar_in t) (masks_in ms) (marked w) p m q j

  -- how far it came was raised only to where some walk came
  pub record Raised (high after : ℕ) : Type 0 where
    pub up : high ≤ after
    pub came : (after ≡ high) ⊎ ((q : ℕ) × WalksTo q after)

  -- where nonterminal b is called at j, and that pair is not worked out
  pub record WantsPair (b j : ℕ) : Type 0 where
    pub named : b < nonterminals_in t
    pub within : j ≤ length w
    pub undone : ¬ T ((state_of t w ws).done b j)
    pub place : ℕ
    pub faces : facing (grammar_in t) place ≡ Nonterminal b
    pub walks : WalksTo place j

  -- one symbol leads to the members of y: all were asked that it calls, and how far they are is told
  pub record LedTo (high after : ℕ) (y : List ℕ) : Type 0 where
    pub within : Within w y
    pub leads : Leads (grammar_in t) (masks_in ms) (marked w) p (λ m. T (member x m)) (λ m. T (member y m))
    pub asked : (m c : ℕ) → T (member x m) → facing (grammar_in t) p ≡ Nonterminal c
        → cover.Asked (masks_in ms) (marked w) (state_of t w ws).done c m
    -- where what is worked out is covered, nothing that it leads to is higher
    pub low : cover.Covered (grammar_in t) (masks_in ms) (marked w) (state_of t w ws).done high → ((m : ℕ) → T (member x m) → m ≤ high)
        → (m : ℕ) → T (member y m) → m ≤ after

  abbrev pub PassedTo : ℕ → Result Positions Halt → ℕ → Type 0
  PassedTo high (Ok y) after = LedTo high after y.words
  PassedTo high (Err (Needs n)) after = WantsPair n.nonterminal n.position
  PassedTo high (Err Out) after = Unit {0}

  -- over one symbol
  pub record Passed (m after : Meter) (r : Result Positions Halt) : Type 0 where
    pub spent : Spent m after
    pub raised : Raised m.high after.high
    pub passed : PassedTo m.high r after.high

  -- the production of place p ends in the members of y, from members of x; and that is covered, where all that is worked out is
  pub record EndsIn (high after : ℕ) (y : List ℕ) : Type 0 where
    pub within : Within w y
    pub ends : (m : ℕ) → EndsFrom (grammar_in t) (masks_in ms) (marked w) (λ m. T (member x m)) p m ↔ T (member y m)
    pub cover : cover.Covered (grammar_in t) (masks_in ms) (marked w) (state_of t w ws).done high → ((m : ℕ) → T (member x m) → m ≤ high)
        → (m : ℕ) → T (member x m) → cover.CoveredFrom (grammar_in t) (masks_in ms) (marked w) (state_of t w ws).done after p m

  abbrev pub WalkedTo : ℕ → Result Positions Halt → ℕ → Type 0
  WalkedTo high (Ok y) after = EndsIn high after y.words
  WalkedTo high (Err (Needs n)) after = WantsPair n.nonterminal n.position
  WalkedTo high (Err Out) after = Unit {0}

  -- along the production
  pub record DidWalk (m after : Meter) (r : Result Positions Halt) : Type 0 where
    pub spent : Spent m after
    pub raised : Raised m.high after.high
    pub walked : WalkedTo m.high r after.high

-- the same of what the code holds
abbrev pub WalksFrom : Search → List ℕ → ℕ → List ℕ → Type 0
WalksFrom s ws p x = MayWalk s.tables.now s.note.now s.masks.now ws s.size p x

abbrev pub Passes : Search → List ℕ → ℕ → List ℕ → Symbol → Type 0
Passes s ws p x symbol = MayPass s.tables.now s.note.now s.masks.now ws s.size p x symbol

abbrev pub PassedBy : Search → List ℕ → ℕ → List ℕ → Meter → Meter → Result Positions Halt → Type 0
PassedBy s ws p x m after r = Passed s.tables.now s.note.now s.masks.now ws p x m after r

abbrev pub WalkedBy : Search → List ℕ → ℕ → List ℕ → Meter → Meter → Result Positions Halt → Type 0
WalkedBy s ws p x m after r = DidWalk s.tables.now s.note.now s.masks.now ws p x m after r
