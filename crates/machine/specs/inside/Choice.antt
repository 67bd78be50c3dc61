-- How the code finds the lowest alternative that serves: by which members of sets meet.
use Rattle.std.specs.Prelude.{◌≡◌, Bool, false, ◌&&◌, List, ℕ, suc, ◌≤◌, length}
use Rattle.std.specs.Prelude as prelude
use Rattle.std.proofs.Math.Option.{Option, none, some}
use Rattle.base.specs.Search.{lowest_from}
use Rattle.grammar.specs.Grammar.{alternatives, first}
use Rattle.grammar.specs.inside.Tables.{grammar_in}
use Rattle.positions.specs.inside.Positions.{member, meets_of}
use Rattle.positions.specs.inside.Words.{set_at}
use Rattle.cells.specs.inside.Chart.{spot}

-- r is the set of those members of `ends`, up to n, from which place q derives up to a member of `rest`
unfoldable pub Leading : ℕ → List ℕ → ℕ → List ℕ → ℕ → List ℕ → List ℕ → Type 0
Leading P ws n ends q rest r = (m : ℕ) → m ≤ n → member r m ≡ (member ends m && meets_of (set_at ws (spot P q m)) rest)

-- the production that begins at this place and at position i can end in s
unfoldable pub ends_in : ℕ → List ℕ → ℕ → List ℕ → Option ℕ → Bool
ends_in P ws i s none = false
ends_in P ws i s (some f) = meets_of (set_at ws (spot P f i)) s

-- an alternative as a number: 0 for none
abbrev pub or_zero : Option ℕ → ℕ
or_zero none = 0
or_zero (some b) = b

-- what P says of an alternative as a number, said of one as the code has it
abbrev pub Numbered : prelude.Option ℕ → (ℕ → Type 0) → Type 0
Numbered prelude.None P = P 0
Numbered (prelude.Some b) P = ¬ (b ≡ 0) × P b

-- the lowest alternative of a by which a position in s can be come to from i, counted from 1; 0 for none
unfoldable pub lowest_in : List ℕ → List ℕ → ℕ → ℕ → List ℕ → ℕ
unfolding lowest_from ends_in alternatives
lowest_in t ws a i s =
    or_zero (lowest_from (λ b. ends_in (grammar_in t).size ws i s (first (grammar_in t) a b)) 0 (suc (length (alternatives (grammar_in t) a))))
