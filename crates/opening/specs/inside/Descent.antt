-- From a place down over open frames.
use Rattle.std.specs.Prelude.{◌↔◌, List, ◌∷◌, ℕ, ◌≤◌, ◌<◌, T, length, Result, IfOk}
use Rattle.grammar.specs.Grammar.{owner}
use Rattle.grammar.specs.inside.Tables.{grammar_in}
use Rattle.positions.specs.inside.Positions.{member}
use Rattle.derivation.specs.Runs.{marked, Opens}
use Rattle.derivation.specs.inside.Frames.{returns_of}
use Rattle.filtering.specs.inside.OpenStacks.{Open, Reached}
use Rattle.search.specs.inside.Walks.{Within}
use Rattle.search.specs.inside.Trials.{CameSoFar}
use Rattle.search.specs.declared.meter.Meter.{Meter}
use Rattle.search.specs.declared.words.Size.{Size}
use Rattle.search.specs.declared.meter.Exhausted.{Exhausted}
use Rattle.search.specs.declared.given.Search.{Search}
use Rattle.opening.specs.declared.marks.Frames.{Frames}
use Rattle.opening.specs.inside.Marks.{Marks}
use Rattle.opening.specs.inside.Stacks.{Stacked, StackKept}
use Rattle.opening.specs.declared.descent.Descent.{Descent}

-- place q of the grammar at position i over d frames
pub record MayDescend (t w ms ws : List ℕ) (s : Size) (base d known q i : ℕ) : Type 0 where
  pub stacked : Stacked t w ms ws s base d known
  pub stack : Open (grammar_in t) (owner (grammar_in t) q) (returns_of ws base d)
  pub place : q < (grammar_in t).size
  pub position : i ≤ length w

-- the same from the positions of the set x
pub record MaySpread (t w ms ws : List ℕ) (s : Size) (base d known q : ℕ) (x : List ℕ) : Type 0 where
  pub stacked : Stacked t w ms ws s base d known
  pub stack : Open (grammar_in t) (owner (grammar_in t) q) (returns_of ws base d)
  pub place : q < (grammar_in t).size
  pub within : Within w x

-- what it comes to: whether the rest is read, and marks of all frames if it is and each was come to at one position
pub record ComesTo (t w ms ws after : List ℕ) (base d q i high high' : ℕ) (a : Descent) : Type 0 where
  pub answer : T a.yes ↔ Opens (grammar_in t) (marked w) (q ∷ returns_of ws base d) i
  pub all-marked : T a.yes → T a.single → Marks (grammar_in t) (marked w) after base d
  pub far : Reached (grammar_in t) (marked w) (q ∷ returns_of ws base d) i → CameSoFar t w ms ws high → CameSoFar t w ms after high'

-- that is known, or the budget is out
pub record Descended (t w ms ws after : List ℕ) (base d known q i : ℕ) (m m' : Meter) (r : Result Descent Exhausted) : Type 0 where
  pub kept : StackKept t w ms ws after base known
  pub spent : m'.left ≤ m.left
  pub told : IfOk r (λ a. ComesTo t w ms ws after base d q i m.high m'.high a)

-- what a set comes to, which is no single position
pub record AllCome (t w ms ws after : List ℕ) (base d q : ℕ) (x : List ℕ) (high high' : ℕ) (a : Descent) : Type 0 where
  pub several : ¬ T a.single
  pub answer : T a.yes ↔ ((i : ℕ) × T (member x i) × Opens (grammar_in t) (marked w) (q ∷ returns_of ws base d) i)
  pub far : ((i : ℕ) → T (member x i) → Reached (grammar_in t) (marked w) (q ∷ returns_of ws base d) i)
      → CameSoFar t w ms ws high → CameSoFar t w ms after high'

pub record Scattered (t w ms ws after : List ℕ) (base d known q : ℕ) (x : List ℕ) (m m' : Meter) (r : Result Descent Exhausted) : Type 0 where
  pub kept : StackKept t w ms ws after base known
  pub spent : m'.left ≤ m.left
  pub told : IfOk r (λ a. AllCome t w ms ws after base d q x m.high m'.high a)

-- the same of what the code holds
abbrev pub DescendsFrom : Search → List ℕ → Frames → ℕ → ℕ → Type 0
DescendsFrom s ws o q i = MayDescend s.tables.now s.note.now s.masks.now ws s.size o.base o.depth o.known q i

abbrev pub SpreadsFrom : Search → List ℕ → Frames → ℕ → List ℕ → Type 0
SpreadsFrom s ws o q x = MaySpread s.tables.now s.note.now s.masks.now ws s.size o.base o.depth o.known q x

abbrev pub DescendedBy : Search → List ℕ → List ℕ → Frames → ℕ → ℕ → Meter → Meter → Result Descent Exhausted → Type 0
DescendedBy s ws after o q i m m' r = Descended s.tables.now s.note.now s.masks.now ws after o.base o.depth o.known q i m m' r

abbrev pub ScatteredBy : Search → List ℕ → List ℕ → Frames → ℕ → List ℕ → Meter → Meter → Result Descent Exhausted → Type 0
ScatteredBy s ws after o q x m m' r = Scattered s.tables.now s.note.now s.masks.now ws after o.base o.depth o.known q x m m' r
