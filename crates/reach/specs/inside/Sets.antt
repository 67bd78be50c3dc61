-- For each place of the grammar the set of positions at which a reader of the note can stand there, side by side in a list of words, and points that
-- are added to these sets.
use Rattle.std.specs.Prelude.{◌≡◌, ◌↔◌, ◌⊎◌, Bool, true, false, List, ℕ, suc, ◌*◌, ◌/◌, ◌<◌, T, length}
use Rattle.base.specs.Bits.{word_bits}
use Rattle.grammar.specs.Limits.{max_places}
use Rattle.positions.specs.inside.Positions.{position_count, set_words, member}
use Rattle.positions.specs.inside.Words.{member_at, total}

-- the words of the sets of all places
abbrev pub sets_words : ℕ
sets_words = set_words * max_places

-- the words of a set of places: place p is a bit of them as a position is of a set of positions
abbrev pub place_set_words : ℕ
place_set_words = suc (max_places / word_bits)

-- the points that the sets can hold
abbrev pub PointInside : ℕ → ℕ → Type 0
PointInside p j = (p < max_places) × (j < position_count)

-- the sets say that a reader can stand at place p at position j
unfoldable pub stands : List ℕ → ℕ → ℕ → Bool
stands ws p j = member_at ws (set_words * p) j

-- the sets `after` hold what those `before` do and the points of P, and nothing else; r says whether anything is new
pub record Added (P : ℕ → ℕ → Type 0) (r : Bool) (before after : List ℕ) : Type 0 where
  pub kept : (p j : ℕ) → PointInside p j → T (stands before p j) → T (stands after p j)
  pub held : (p j : ℕ) → PointInside p j → P p j → T (stands after p j)
  pub only : (p j : ℕ) → PointInside p j → T (stands after p j) → T (stands before p j) ⊎ P p j
  pub same : r ≡ false → after ≡ before
  pub grown : r ≡ true → total before < total after

-- a point may be added to the sets
pub record Marks (q j : ℕ) (sets : List ℕ) : Type 0 where
  pub place : q < max_places
  pub position : j < position_count
  pub long : length sets ≡ sets_words

-- the one point of place q at position i
abbrev pub PointOf : ℕ → ℕ → ℕ → ℕ → Type 0
PointOf q i p j = (p ≡ q) × (j ≡ i)

-- r is the set of the positions at which a reader can stand at some place below m
unfoldable pub Occupied : List ℕ → ℕ → List ℕ → Type 0
Occupied ws m r = (j : ℕ) → j < position_count → T (member r j) ↔ ((p : ℕ) × (p < m) × T (stands ws p j))
