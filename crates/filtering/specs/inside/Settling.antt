-- A pair that is worked out and kept, and what holds of a search between two of them.
use Rattle.std.specs.Prelude.{◌≡◌, ◌⊎◌, List, ℕ, T}
use Rattle.grammar.specs.Grammar.{Grammar}
use Rattle.derivation.specs.inside.Reach.{Arrives}
use Rattle.first_follow.specs.inside.Masks.{Masks}
use Rattle.filtering.specs.inside.Tags.{Tag}
use Rattle.filtering.specs.inside.Cover.{Covered}
use Rattle.filtering.specs.inside.Known.{State, Holds}

-- the second state is the first with tag t of pair (a, i)
pub record Stored (s : State) (a i : ℕ) (t : Tag) (after : State) : Type 0 where
  pub has : T (after.done a i)
  pub new : after.tag a i ≡ t
  pub keeps : (b j : ℕ) → T (s.done b j) → T (after.done b j)
  -- a pair that is worked out now is this one, or was so before and has the same tag
  pub cases : (b j : ℕ) → T (after.done b j) → ((b ≡ a) × (j ≡ i)) ⊎ (T (s.done b j) × (after.tag b j ≡ s.tag b j))

-- the note arrives at this position, or it is the beginning
abbrev pub Came : Grammar → List ℕ → ℕ → Type 0
Came g w h = (h ≡ 0) ⊎ Arrives g w h

-- what is worked out is right and covered, and the note comes as far as `high` says
pub record Sure (g : Grammar) (M : Masks) (w : List ℕ) (s : State) (high : ℕ) : Type 0 where
  pub holds : Holds g M w s
  pub cover : Covered g M w s.done high
  pub came : Came g w high
