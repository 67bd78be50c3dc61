-- From a set of positions on by a place: the union of the place's cells at them.
use Rattle.std.specs.Prelude.{◌≡◌, Bool, ◌&&◌, ◌||◌, List, ℕ, suc, ◌-◌, ◌≤◌, ◌<◌, T}
use Rattle.base.specs.Rounds.{any_of, up_from}
use Rattle.positions.specs.inside.Positions.{position_count, member}
use Rattle.cells.specs.inside.Chart.{cell_has, Lent}

-- from some position that S holds, from `from` up to n, on by place q up to j; C says where places lead to
unfoldable pub through_of : (ℕ → Bool) → (ℕ → ℕ → ℕ → Bool) → ℕ → ℕ → ℕ → ℕ → Bool
unfolding any_of up_from
through_of S C q j from n = any_of (λ m. S m && C q m j) (up_from from (suc n - from))

-- r is where place q leads to from the members of s, from `from` up to n
unfoldable pub Through : ℕ → List ℕ → ℕ → List ℕ → ℕ → ℕ → List ℕ → Type 0
unfolding through_of cell_has
Through P ws n s from q r = (j : ℕ) → j < position_count → member r j ≡ through_of (member s) (cell_has P ws) q j from n

-- r is the set `begun` with that
unfoldable pub Onward : ℕ → List ℕ → ℕ → List ℕ → List ℕ → ℕ → ℕ → List ℕ → Type 0
unfolding through_of cell_has
Onward P ws n s begun from q r = (j : ℕ) → j < position_count → member r j ≡ (member begun j || through_of (member s) (cell_has P ws) q j from n)

-- from positions behind `from` place q leads ahead, and no further than n
unfoldable pub Ahead : ℕ → List ℕ → ℕ → ℕ → ℕ → Type 0
unfolding cell_has
Ahead P ws n from q = (m j : ℕ) → from < m → m ≤ n → j < position_count → T (cell_has P ws q m j) → (m ≤ j) × (j ≤ n)

-- what the code goes by from positions on by place q: the place is one of P, and the first position may stand for all
pub record Follows (P : ℕ) (ws : List ℕ) (n from q : ℕ) : Type 0 where
  pub lent : Lent P n ws
  pub within : q < P
  pub ahead : Ahead P ws n from q
