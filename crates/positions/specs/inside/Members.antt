-- The members of a set, found one after the other.
use Rattle.std.specs.Prelude.{◌≡◌, List, ℕ, ◌+◌, ◌≤◌, ◌<◌, Option, MatchOption}
use Rattle.base.specs.Bits.{word_bits}
use Rattle.positions.specs.declared.Members.{Members}
use Rattle.positions.specs.inside.Positions.{position_count, FromBit, NextOf}

-- r is the lowest bit of the word x from k on
abbrev pub LowestFrom : ℕ → ℕ → Option ℕ → Type 0
LowestFrom x k r = MatchOption r (FromBit x k word_bits) (λ b. (b < word_bits) × FromBit x k b)

-- r is the least member from `from` on
abbrev pub LeastFrom : List ℕ → ℕ → Option ℕ → Type 0
LeastFrom s from r = MatchOption r (NextOf s from position_count) (λ m. (m < position_count) × NextOf s from m)

-- a step of an iterator over members that gives r: the least member from where it stands on, and then it stands behind that; or the least one stands
-- behind the last position that it goes to
abbrev pub Walks : Members → Option ℕ → Members → Type 0
Walks it r after =
    MatchOption r (it.last < position_count → (m : ℕ) × (it.last < m) × NextOf it.set.words it.at m)
    (λ m. (m < position_count) × (m ≤ it.last) × NextOf it.set.words it.at m × (after ≡ record { set = it.set; at = m + 1; last = it.last }))
