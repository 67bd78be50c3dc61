-- Where a production and where a set of positions leads, what that needs being worked out.
use Rattle.std.specs.Prelude.{◌≡◌, List, ℕ, ◌≤◌, T, length, ◌↔◌, Result, IfOk}
use Rattle.grammar.specs.inside.Tables.{grammar_in, nonterminals_in}
use Rattle.positions.specs.declared.Positions.{Positions}
use Rattle.positions.specs.inside.Positions.{member}
use Rattle.derivation.specs.Runs.{marked}
use Rattle.derivation.specs.inside.Reach.{Reach}
use Rattle.first_follow.specs.inside.Words.{masks_in}
use Rattle.filtering.specs.inside.Filtered.{EndsFrom}
use Rattle.search.specs.inside.Words.{search_words, Kept}
use Rattle.search.specs.inside.Searching.{Holds}
use Rattle.search.specs.inside.Ways.{Went}
use Rattle.search.specs.inside.Walks.{Within}
use Rattle.search.specs.inside.Trials.{CameSoFar}
use Rattle.search.specs.declared.meter.Meter.{Meter}
use Rattle.search.specs.declared.meter.Exhausted.{Exhausted}
use Rattle.search.specs.declared.given.Search.{Search}
use Rattle.search.specs.declared.words.Pair.{Pair}
use Rattle.search.specs.declared.ways.Way.{Way}
use Rattle.search.specs.declared.ways.Way.TheVariants.{Needs}

-- pairs were worked out, and no word behind those of the search has changed
pub record Worked (t w ms ws after : List ℕ) (m r : Meter) : Type 0 where
  pub kept : Kept (search_words (nonterminals_in t) (length w)) ws after
  pub holds : Holds t w ms after
  pub spent : r.left ≤ m.left

-- from place p at position i, in the state that is left, this is where it leads, and nothing is needed any more
pub record LeadsThere (t w ms ws after : List ℕ) (p i high high' : ℕ) (way : Way) : Type 0 where
  pub went : Went t w ms after p i way
  pub needs-none : (n : Pair) → ¬ (way ≡ Needs n)
  pub far : Reach (grammar_in t) (marked w) p i → CameSoFar t w ms ws high → CameSoFar t w ms after high'

-- that is known, or the budget is out
pub record Led (t w ms ws after : List ℕ) (p i : ℕ) (m m' : Meter) (r : Result Way Exhausted) : Type 0 where
  pub worked : Worked t w ms ws after m m'
  pub there : IfOk r (λ way. LeadsThere t w ms ws after p i m.high m'.high way)

-- from the positions of the set x at place p its production ends in those of the answer
pub record SpreadsThere (t w ms ws after : List ℕ) (p : ℕ) (x : List ℕ) (high high' : ℕ) (to : Positions) : Type 0 where
  pub within : Within w to.words
  pub ends : (j : ℕ) → EndsFrom (grammar_in t) (masks_in ms) (marked w) (λ i. T (member x i)) p j ↔ T (member to.words j)
  pub far : ((i : ℕ) → T (member x i) → Reach (grammar_in t) (marked w) p i) → CameSoFar t w ms ws high → CameSoFar t w ms after high'

pub record LedAll (t w ms ws after : List ℕ) (p : ℕ) (x : List ℕ) (m m' : Meter) (r : Result Positions Exhausted) : Type 0 where
  pub worked : Worked t w ms ws after m m'
  pub there : IfOk r (λ to. SpreadsThere t w ms ws after p x m.high m'.high to)

-- the same of what the code holds
abbrev pub LedBy : Search → List ℕ → List ℕ → ℕ → ℕ → Meter → Meter → Result Way Exhausted → Type 0
LedBy s ws after p i m m' r = Led s.tables.now s.note.now s.masks.now ws after p i m m' r

abbrev pub LedAllBy : Search → List ℕ → List ℕ → ℕ → List ℕ → Meter → Meter → Result Positions Exhausted → Type 0
LedAllBy s ws after p x m m' r = LedAll s.tables.now s.note.now s.masks.now ws after p x m m' r
