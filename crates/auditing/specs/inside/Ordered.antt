-- The configurations of a state as the code looks at them: one after another, each with the one before it.
use Rattle.std.specs.Prelude.{Bool, ◌&&◌, ◌||◌, List, ℕ, ◌-◌, eqb, ltb}
use Rattle.lookahead.specs.Order.{key}
use Rattle.configurations.specs.inside.Packed.{packed_at, fits?}
use Rattle.configurations.specs.inside.Held.{config_at}

-- configuration k is above the one before it, if there is one
unfoldable pub above? : List ℕ → ℕ → Bool
unfolding key config_at
above? ws k = eqb k 0 || ltb (key (config_at ws (k - 1))) (key (config_at ws k))

-- configuration k may stand where it does
unfoldable pub in_order? : List ℕ → ℕ → Bool
unfolding fits? packed_at above?
in_order? ws k = let above = above? ws k in fits? (packed_at ws k) && above
