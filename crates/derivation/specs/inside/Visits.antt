-- The stacks and positions that the machine comes to, whatever chooser it asks, with the room and the chooser's state there.
use Rattle.std.specs.Prelude.{◌≡◌, List, ℕ, pred}
use Rattle.grammar.specs.Grammar.{Grammar}
use Rattle.derivation.specs.Machine.{Chooser, move, pick, moved, step}

-- from this stack, position, room and state the machine comes to those
pub data Visits {C : Type 0} (g : Grammar) (w : List ℕ) (choose : Chooser C) (S₀ : List ℕ) (i₀ room₀ : ℕ) (c₀ : C) : List ℕ → ℕ → ℕ
    → C → Type 0 where
  begins : Visits g w choose S₀ i₀ room₀ c₀ S₀ i₀ room₀ c₀
  moves : {S S' : List ℕ} {i i' room : ℕ} {c d : C} → Visits g w choose S₀ i₀ room₀ c₀ S i room c → step g w choose c S i room
      ≡ moved (move S' i') d
      → Visits g w choose S₀ i₀ room₀ c₀ S' i' room d
  takes : {S S' : List ℕ} {b i room : ℕ} {c d : C} → Visits g w choose S₀ i₀ room₀ c₀ S i room c → step g w choose c S i room
      ≡ moved (pick b S') d
      → Visits g w choose S₀ i₀ room₀ c₀ S' i (pred room) d
