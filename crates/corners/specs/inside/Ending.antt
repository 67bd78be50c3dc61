-- Nonterminals from which moves come to an end, and the rounds of the code that find them. Internal: proofs/ says what they tell of left recursion.
use Rattle.std.specs.Prelude.{◌≡◌, false, cond, List, ℕ, zero, suc, ◌<◌, get_or, T}
use Rattle.std.specs.Int.Bits.{bit_or}
use Rattle.base.specs.Bits.{test_bit, set_bit, is_subset}

-- every move from a, but for one to a itself, leads to a nonterminal from which moves end
pub data Ends (rows : List ℕ) : ℕ → Type 0 where
  ends : (a : ℕ) → ((c : ℕ) → T (test_bit (get_or rows a 0) c) → (c ≡ a → ⊥) → Ends rows c) → Ends rows a

-- every member of x is one from which moves end
abbrev pub Ending : List ℕ → ℕ → Type 0
Ending rows x = (a : ℕ) → T (test_bit x a) → Ends rows a

-- moves from members of x end, lead to members of x alone, and never from one to itself
pub record Settled (rows : List ℕ) (x : ℕ) : Type 0 where
  pub ending : Ending rows x
  pub closed : (a c : ℕ) → T (test_bit x a) → T (test_bit (get_or rows a 0) c) → T (test_bit x c)
  pub apart : (a : ℕ) → T (test_bit x a) → test_bit (get_or rows a 0) a ≡ false

-- so it is from every nonterminal below n
abbrev pub AllEnd : List ℕ → ℕ → Type 0
AllEnd rows n = (a : ℕ) → a < n → Ends rows a

-- the set of a alone if every move from a leads to a or into the set x, else the empty set
abbrev pub ended_of : ℕ → ℕ → ℕ → ℕ
ended_of row a x = cond (is_subset row (set_bit x a)) (set_bit 0 a) 0

-- the nonterminals below a of which that is so
unfoldable pub ended_below : List ℕ → ℕ → ℕ → ℕ
ended_below rows x zero = 0
ended_below rows x (suc a) = bit_or (ended_below rows x a) (ended_of (get_or rows a 0) a x)
