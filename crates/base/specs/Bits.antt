-- Single bits of a number: a word is a set of numbers below word_bits.
use Rattle.std.specs.Prelude.{ℕ, ◌/◌, ◌%◌, ◌^◌, ◌<◌, ◌≡◌, Bool, true, false, eqb, Option, MatchOption}
use Rattle.std.specs.Int.Bits.{bit_or, bit_xor}

-- the bits of a word
abbrev pub word_bits : ℕ
word_bits = 32

-- bit k of x, counted from 0: 0 or 1
unfoldable pub bit : ℕ → ℕ → ℕ
bit x k = x / 2 ^ k % 2

-- k is a member of the set x
unfoldable pub test_bit : ℕ → ℕ → Bool
test_bit x k = eqb (bit x k) 1

-- the set x with the member k
unfoldable pub set_bit : ℕ → ℕ → ℕ
set_bit x k = bit_or x (2 ^ k)

-- every member of x is one of y
unfoldable pub is_subset : ℕ → ℕ → Bool
is_subset x y = eqb (bit_or x y) y

-- k is the highest member of the set x
pub record HighestIs (x k : ℕ) : Type 0 where
  pub small : k < word_bits
  pub member : test_bit x k ≡ true
  pub last : (j : ℕ) → k < j → test_bit x j ≡ false

-- the members of a set one by one, the highest first: it leaves the set, and of the empty set there is none
abbrev pub GivesHighest : ℕ → Option ℕ → ℕ → Type 0
GivesHighest left r rest = MatchOption r ((left ≡ 0) × (rest ≡ 0)) (λ a. HighestIs left a × (rest ≡ bit_xor left (2 ^ a)))
