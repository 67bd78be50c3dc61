-- The machine's stacks, over which the filter drops nothing that can be read to the end, and what a note reaches on the way down them.
use Rattle.std.specs.Prelude.{◌≡◌, List, [], ◌∷◌, ℕ, suc}
use Rattle.grammar.specs.declared.Symbol.TheVariants.{Nonterminal}
use Rattle.grammar.specs.Limits.{end_place}
use Rattle.grammar.specs.Grammar.{Grammar, facing, owner}
use Rattle.derivation.specs.inside.BigSteps.{DerivesBy}
use Rattle.derivation.specs.inside.Reach.{Reach}
use Rattle.derivation.specs.inside.Steps.{Quiet}
use Rattle.derivation.specs.inside.Frames.{returns_of}

-- the stack that waits under a production of nonterminal a: return places, each behind a call of what stands over it, down to the end place
pub data Open (g : Grammar) : ℕ → List ℕ → Type 0 where
  bottom : Open g 0 (end_place ∷ [])
  frame : {p a : ℕ} {S : List ℕ} → facing g p ≡ Nonterminal a → Open g (owner g p) S → Open g a (suc p ∷ S)

-- a production is open over an open stack, or what is left calls nothing
pub data Stands (g : Grammar) : List ℕ → Type 0 where
  inside : {p : ℕ} {S : List ℕ} → Open g (owner g p) S → Stands g (p ∷ S)
  quiet : {S : List ℕ} → Quiet g S → Stands g S

-- the top is reached at i, and wherever it can end, so is what stands below; the lowest place is the end place, of which nothing is said
unfoldable pub Reached : Grammar → List ℕ → List ℕ → ℕ → Type 0
Reached g w [] i = Unit {0}
Reached g w (p ∷ []) i = Unit {0}
Reached g w (p ∷ q ∷ S) i = Reach g w p i × ((m : ℕ) → DerivesBy g w p i m → Reached g w (q ∷ S) m)

-- both of place p over the return places of d frames in the words, at position i
pub record Standing (g : Grammar) (w ws : List ℕ) (base d p i : ℕ) : Type 0 where
  pub stands : Stands g (p ∷ returns_of ws base d)
  pub reached : Reached g w (p ∷ returns_of ws base d) i
