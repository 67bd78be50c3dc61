-- The derivation that a reading is to give: at each step the lowest alternative from which the whole rest can still be derived.
use Rattle.std.specs.Prelude.{◌≡◌, List, [], ◌∷◌, ◌++◌, ℕ, ◌<◌, T}
use Rattle.std.proofs.Math.Option.{some}
use Rattle.grammar.specs.declared.Symbol.{Symbol}
use Rattle.grammar.specs.declared.Symbol.TheVariants.{Token, Nonterminal}
use Rattle.grammar.specs.Derivation.{Syntax, Derives}

-- a leftmost derivation (alternatives first, then tokens) that expands each nonterminal by the lowest alternative with which what is left of the
-- tokens can be derived from it and all that follows
pub data Chosen (g : Syntax) : List Symbol → List ℕ → List ℕ → Type 0 where
  done : Chosen g [] [] []
  match : {k t : ℕ} {α : List Symbol} {r w : List ℕ} → T (g.admits k t) → Chosen g α r w → Chosen g (Token k ∷ α) r (t ∷ w)
  expand : {a b : ℕ} {β α : List Symbol} {r w : List ℕ} → g.production a b ≡ some β
      → ((c : ℕ) (γ : List Symbol) → c < b → g.production a c ≡ some γ → ¬ Derives g (γ ++ α) w)
      → Chosen g (β ++ α) r w → Chosen g (Nonterminal a ∷ α) (b ∷ r) w
