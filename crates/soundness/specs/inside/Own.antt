-- The nonterminals whose row holds them.
use Rattle.std.specs.Prelude.{◌≡◌, ◌&&◌, List, ℕ, get_or, ltb}
use Rattle.base.specs.Bits.{test_bit}

-- x is the set of those below n whose row holds them
unfoldable pub OwnIs : List ℕ → ℕ → ℕ → Type 0
OwnIs rows n x = (a : ℕ) → test_bit x a ≡ (ltb a n && test_bit (get_or rows a 0) a)
