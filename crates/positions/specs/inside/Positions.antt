-- Sets of positions as words: position j is bit j % word_bits of word j / word_bits.
use Rattle.std.specs.Prelude.{Bool, true, false, not, ◌≡◌, List, [], ◌∷◌, ℕ, ◌-◌, ◌*◌, ◌/◌, ◌%◌, ◌^◌, ◌≤◌, ◌<◌, get_or, set, eqb}
use Rattle.std.specs.Int.Bits.{bit_or, bit_and, bit_xor}
use Rattle.base.specs.Bits.{word_bits, test_bit, set_bit}

-- the words of a set, and the positions that they can hold
abbrev pub set_words : ℕ
set_words = 5

abbrev pub position_count : ℕ
position_count = set_words * word_bits

-- the first five of any words
abbrev pub five : List ℕ → List ℕ
five s = get_or s 0 0 ∷ get_or s 1 0 ∷ get_or s 2 0 ∷ get_or s 3 0 ∷ get_or s 4 0 ∷ []

-- j is a member
unfoldable pub member : List ℕ → ℕ → Bool
member s j = test_bit (get_or s (j / word_bits) 0) (j % word_bits)

-- no member
abbrev pub empty_set : List ℕ
empty_set = 0 ∷ 0 ∷ 0 ∷ 0 ∷ 0 ∷ []

-- the set with the member j
unfoldable pub with_of : List ℕ → ℕ → List ℕ
with_of s j = set s (j / word_bits) (set_bit (get_or s (j / word_bits) 0) (j % word_bits))

-- what is in one of two sets or in both
unfoldable pub union_of : List ℕ → List ℕ → List ℕ
union_of a b =
    bit_or (get_or a 0 0) (get_or b 0 0) ∷
    bit_or (get_or a 1 0) (get_or b 1 0) ∷
    bit_or (get_or a 2 0) (get_or b 2 0) ∷
    bit_or (get_or a 3 0) (get_or b 3 0) ∷
    bit_or (get_or a 4 0) (get_or b 4 0) ∷ []

-- the bits of all five words
abbrev pub all_words : (ℕ → ℕ) → ℕ
all_words word = bit_or (bit_or (bit_or (bit_or (word 0) (word 1)) (word 2)) (word 3)) (word 4)

-- what two sets have in common in word k
abbrev pub common : List ℕ → List ℕ → ℕ → ℕ
common a b k = bit_and (get_or a k 0) (get_or b k 0)

-- two sets share a member
unfoldable pub meets_of : List ℕ → List ℕ → Bool
meets_of a b = not (eqb (all_words (common a b)) 0)

-- r is the lowest bit of the word x from k on, or word_bits if there is none
pub record FromBit (x k r : ℕ) : Type 0 where
  pub most : r ≤ word_bits
  pub above : r < word_bits → k ≤ r
  pub found : r < word_bits → test_bit x r ≡ true
  pub none : (m : ℕ) → k ≤ m → m < r → test_bit x m ≡ false

-- r is the least member from `from` on, or position_count if there is none
pub record NextOf (s : List ℕ) (from r : ℕ) : Type 0 where
  pub most : r ≤ position_count
  pub above : r < position_count → from ≤ r
  pub found : r < position_count → member s r ≡ true
  pub none : (k : ℕ) → from ≤ k → k < r → member s k ≡ false

-- the positions that a set does not hold
unfoldable pub opposite_of : List ℕ → List ℕ
opposite_of s =
    bit_xor (get_or s 0 0) (2 ^ word_bits - 1) ∷
    bit_xor (get_or s 1 0) (2 ^ word_bits - 1) ∷
    bit_xor (get_or s 2 0) (2 ^ word_bits - 1) ∷
    bit_xor (get_or s 3 0) (2 ^ word_bits - 1) ∷
    bit_xor (get_or s 4 0) (2 ^ word_bits - 1) ∷ []

-- r is true exactly if s holds every position from `from` up to n
pub record Full (r : Bool) (s : List ℕ) (from n : ℕ) : Type 0 where
  pub all : r ≡ true → (k : ℕ) → from ≤ k → k ≤ n → member s k ≡ true
  pub only : ((k : ℕ) → from ≤ k → k ≤ n → member s k ≡ true) → r ≡ true
