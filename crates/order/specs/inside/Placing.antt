-- Nonterminals placed one after the other: what holds while some have no place yet.
use Rattle.std.specs.Prelude.{◌≡◌, Bool, true, false, not, ◌&&◌, List, ℕ, suc, ◌-◌, ◌<◌, T, length}
use Rattle.base.specs.Bits.{test_bit, is_subset}
use Rattle.grammar.specs.Limits.{max_nonterminals}
use Rattle.grammar.specs.inside.Tables.{grammar_in, nonterminals_in}
use Rattle.derivation.specs.inside.Ready.{Ready}
use Rattle.order.specs.inside.Order.{Among, Lined}

-- a has no place, and every nonterminal of its row has one
unfoldable pub ripe_of : ℕ → ℕ → ℕ → Bool
ripe_of row set a = not (test_bit set a) && is_subset row set

-- the k-th of n nonterminals, from the first up or from the last down
unfoldable pub turn_of : Bool → ℕ → ℕ → ℕ
turn_of true k n = k
turn_of false k n = n - suc k

-- the first `count` places are taken, by the nonterminals of `set`
pub record Placing (t order : List ℕ) (set count : ℕ) : Type 0 where
  pub long : length order ≡ max_nonterminals
  pub lined : Lined (grammar_in t) (nonterminals_in t) order count
  pub listed : (a : ℕ) → T (test_bit set a) → Among order count a
  pub marked : (a : ℕ) → Among order count a → T (test_bit set a)

-- what a sweep rests on: somebody has no place yet
pub record Sweeps (t order : List ℕ) (set count : ℕ) : Type 0 where
  pub ready : Ready t
  pub placing : Placing t order set count
  pub left : count < nonterminals_in t
