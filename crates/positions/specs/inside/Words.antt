-- Sets of positions in a list of words: five words from a place on.
use Rattle.std.specs.Prelude.{◌≡◌, Bool, true, false, List, [], ◌∷◌, ℕ, ◌+◌, ◌/◌, ◌%◌, ◌<◌, get_or}
use Rattle.std.proofs.lemmas.List.Edits.{sets}
use Rattle.base.specs.Bits.{word_bits, test_bit}
use Rattle.positions.specs.inside.Positions.{five, union_of}

-- j is a member of the set that stands at `at`
unfoldable pub member_at : List ℕ → ℕ → ℕ → Bool
member_at ws at j = test_bit (get_or ws (at + j / word_bits) 0) (j % word_bits)

-- the set that stands at `at`
unfoldable pub set_at : List ℕ → ℕ → List ℕ
set_at ws at = get_or ws at 0 ∷ get_or ws (at + 1) 0 ∷ get_or ws (at + 2) 0 ∷ get_or ws (at + 3) 0 ∷ get_or ws (at + 4) 0 ∷ []

-- the set s put at `at`
unfoldable pub put_at : List ℕ → ℕ → List ℕ → List ℕ
put_at ws at s = sets ws at (five s)

-- the sum of the words: it grows with every set that grows, so loops that only add members end
unfoldable pub total : List ℕ → ℕ
total [] = 0
total (x ∷ xs) = x + total xs

-- the members of s have joined the set at `at`, and r says whether that changed anything
pub record Joined (r : Bool) (ws after : List ℕ) (at : ℕ) (s : List ℕ) : Type 0 where
  pub words : after ≡ put_at ws at (union_of (set_at ws at) s)
  pub same : r ≡ false → after ≡ ws
  pub grown : r ≡ true → total ws < total after
