-- The machine that follows a leftmost derivation: a stack of places, the topmost first, and a position in the note. One step at a time, with any
-- choice of alternatives: what holds of these steps holds of every reading, of notes that are no sentences too.
use Rattle.std.specs.Prelude.{◌≡◌, List, [], ◌∷◌, ℕ, suc, ◌<◌, T}
use Rattle.std.proofs.Math.Option.{some}
use Rattle.std.proofs.Math.ListN.{get_elem?}
use Rattle.grammar.specs.declared.Symbol.TheVariants.{Token, Nonterminal, End}
use Rattle.grammar.specs.Grammar.{Grammar, facing, owner, admits, first}

-- one step, from a stack and a position to a stack and a position
pub data Step (g : Grammar) (w : List ℕ) : List ℕ → ℕ → List ℕ → ℕ → Type 0 where
  -- a production is at its end: the place below it goes on
  popped : {p i : ℕ} {S : List ℕ} → facing g p ≡ End → Step g w (p ∷ S) i S i
  -- a token is called for, and the token at the position may stand there
  matched : {p k t i : ℕ} {S : List ℕ} → facing g p ≡ Token k → get_elem? w i ≡ some t → T (admits g k t)
      → Step g w (p ∷ S) i (suc p ∷ S) (suc i)
  -- a nonterminal is called: some alternative of it is entered, and the place behind the call waits
  picked : {p a f i : ℕ} {S : List ℕ} (b : ℕ) → facing g p ≡ Nonterminal a → first g a b ≡ some f → Step g w (p ∷ S) i (f ∷ suc p ∷ S) i

-- any number of steps, from one stack and position
pub data Steps (g : Grammar) (w : List ℕ) (S₀ : List ℕ) (i₀ : ℕ) : List ℕ → ℕ → Type 0 where
  stay : Steps g w S₀ i₀ S₀ i₀
  then : {S S' : List ℕ} {i i' : ℕ} → Steps g w S₀ i₀ S i → Step g w S i S' i' → Steps g w S₀ i₀ S' i'

-- a stack from which no nonterminal is ever called: what stands under the first production that is entered
pub data Quiet (g : Grammar) : List ℕ → Type 0 where
  empty : Quiet g []
  end : {p : ℕ} {S : List ℕ} → facing g p ≡ End → Quiet g S → Quiet g (p ∷ S)
  token : {p k : ℕ} {S : List ℕ} → facing g p ≡ Token k → Quiet g (suc p ∷ S) → Quiet g (p ∷ S)

-- every token that a production reads stands before position n; an end mark at n, which no production reads, is no position more
abbrev pub Reads : Grammar → List ℕ → ℕ → Type 0
Reads g w n = (a b f p k i t : ℕ) → first g a b ≡ some f → owner g p ≡ a → facing g p ≡ Token k → get_elem? w i ≡ some t → T (admits g k t)
    → i < n
