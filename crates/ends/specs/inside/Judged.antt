-- Nonterminals judged one after the other, each behind its left corners: what holds after some of them have had their turn.
use Rattle.std.specs.Prelude.{◌≡◌, List, ℕ, ◌<◌}
use Rattle.std.proofs.Math.Dec.{T}
use Rattle.positions.specs.inside.Positions.{position_count}
use Rattle.order.specs.inside.Order.{Among}
use Rattle.ends.specs.inside.Ends.{end_has, lead, SoundEnds}
use Rattle.ends.specs.inside.Row.{offers}

module _ (t w ws : List ℕ) (i : ℕ) where
  -- looking along the productions of nonterminal a once more adds nothing
  unfoldable pub ClosedAt : List ℕ → ℕ → Type 0
  unfolding lead
  ClosedAt ends a = (j : ℕ) → j < position_count → T (offers t w ws i ends a j) → T (end_has ends a j)

  -- one look along the productions of nonterminal a: its set is what they lead to, and the sets of the others stay
  pub record Looked (a : ℕ) (ends after : List ℕ) : Type 0 where
    pub others : (b j : ℕ) → (b ≡ a → ⊥) → j < position_count → end_has after b j ≡ end_has ends b j
    pub own : (j : ℕ) → j < position_count → end_has after a j ≡ offers t w ws i ends a j

  -- the first k of the order are judged
  pub record Judged (order : List ℕ) (k : ℕ) (ends : List ℕ) : Type 0 where
    pub sound : SoundEnds t w i ends
    pub closed : (a : ℕ) → Among order k a → ClosedAt ends a
