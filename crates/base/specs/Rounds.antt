-- Rounds of an operator on sets, a set being its Boolean test.
use Rattle.std.specs.Prelude.{Bool, false, ◌||◌, List, [], ◌∷◌, ℕ, zero, suc}

-- k rounds of F from the empty set
unfoldable pub rounds : {C : Type 0} → ((C → Bool) → C → Bool) → ℕ → C → Bool
rounds F zero c = false
rounds F (suc k) c = F (rounds F k) c

-- some element of the list passes the test; a later one is asked only if those before it fail
unfoldable pub any_of : {A : Type 0} → (A → Bool) → List A → Bool
any_of p [] = false
any_of p (x ∷ l) = let rest = any_of p l in p x || rest

-- the numbers from i on, n of them
unfoldable pub up_from : ℕ → ℕ → List ℕ
up_from i zero = []
up_from i (suc n) = i ∷ up_from (suc i) n
