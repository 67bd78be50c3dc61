-- What a prediction answers, and what the quick machine may rely on of what predicts: three laws. The lookahead cache is one predictor; another, or one
-- that asks before the cache is asked, is one more instance.
use Rattle.std.specs.Prelude.{◌≡◌, ◌⊎◌, List, ◌∷◌, ℕ, drop, Option, Some, None}
use Rattle.std.proofs.Math.Option.{some}
use Rattle.grammar.specs.Grammar.{Grammar, first}
use Rattle.derivation.specs.Runs.{Opens}
use Rattle.lookahead.specs.Configs.{Decides}

-- what is predicted of a nonterminal: one of its alternatives, or none, which is FULL: lookahead does not tell
abbrev pub Forecast : Type 0
Forecast = Option ℕ

-- what is predicted, and the state after it
pub record Predicted (C : Type 0) : Type 0 where
  pub forecast : Forecast
  pub state : C

abbrev pub predicted : {C : Type 0} → Forecast → C → Predicted C
predicted x c = record { forecast = x; state = c }

-- a predictor: from a state, what it says of a decision over the tokens that are left, the end mark included, and the state that it leaves
abbrev pub Predicts : Type 0 → Type 0
Predicts C = C → ℕ → List ℕ → Predicted C

-- FULL, or alternative b
abbrev pub FullOr : ℕ → Forecast → Type 0
FullOr b x = (x ≡ None) ⊎ (x ≡ Some b)

module _ {C : Type 0} (Coherent : C → Type 0) (Extends : C → C → Type 0) where
  -- a coherent state that extends another
  pub record Grown (c d : C) : Type 0 where
    pub coherent : Coherent d
    pub extends : Extends c d

  -- the laws of a predictor over the note w with its end mark, where it is asked over the open stacks at positions of which `Stands` holds
  pub record Predictor (g : Grammar) (w : List ℕ) (Stands : List ℕ → ℕ → Type 0) (predict : Predicts C) : Type 0 where
    -- AGREES: where alternative b, from its first place f on, over the open stack S can read the rest of the note, the prediction is FULL or b
    pub agrees : (c : C) (a b f i : ℕ) (S : List ℕ) → Coherent c → Decides g a → first g a b ≡ some f → Stands (f ∷ S) i
        → Opens g w (f ∷ S) i
        → FullOr b (predict c a (drop i w)).forecast
    -- ONLY ADDS: the state that a prediction leaves is coherent, and extends the one before
    pub adds : (c : C) (a i : ℕ) → Coherent c → Decides g a → Grown c (predict c a (drop i w)).state
    -- SAYS THE SAME AGAIN: over every coherent state that extends what a prediction left, the same is predicted, and nothing is added
    pub again : (c d : C) (a i : ℕ) → Coherent c → Decides g a → Coherent d → Extends (predict c a (drop i w)).state d
        → predict d a (drop i w) ≡ predicted (predict c a (drop i w)).forecast d
