-- Big steps: what the rest of a production derives, chains of them for a stack, and what a stack spells.
use Rattle.std.specs.Prelude.{◌≡◌, List, [], ◌∷◌, ◌++◌, ℕ, suc, ◌≤◌, T, length}
use Rattle.std.proofs.Math.Option.{some}
use Rattle.std.proofs.Math.ListN.{get_elem?}
use Rattle.grammar.specs.declared.Symbol.{Symbol}
use Rattle.grammar.specs.declared.Symbol.TheVariants.{Token, Nonterminal, End}
use Rattle.grammar.specs.Limits.{end_place}
use Rattle.grammar.specs.Grammar.{Grammar, facing, admits, first, suffix}
use Rattle.derivation.specs.Runs.{Run, marked}

-- big steps: the rest of a production, from place p on, derives the tokens of w from i up to j
pub data Der (g : Grammar) (w : List ℕ) : ℕ → ℕ → ℕ → List ℕ → Type 0 where
  finish : {p i : ℕ} → facing g p ≡ End → i ≤ length w → Der g w p i i []
  match : {p k t i j : ℕ} {r : List ℕ} → facing g p ≡ Token k → get_elem? w i ≡ some t → T (admits g k t) → Der g w (suc p) (suc i) j r
      → Der g w p i j r
  expand : {p a b f i m j : ℕ} {r s : List ℕ} → facing g p ≡ Nonterminal a → first g a b ≡ some f → Der g w f i m r → Der g w (suc p) m j s
      → Der g w p i j (b ∷ (r ++ s))

-- a chain of big steps, one for each place of a stack, each from where the one before it came to
pub data Ders (g : Grammar) (w : List ℕ) : List ℕ → ℕ → ℕ → List ℕ → Type 0 where
  none : {i : ℕ} → i ≤ length w → Ders g w [] i i []
  more : {p : ℕ} {S : List ℕ} {i m j : ℕ} {r s : List ℕ} → Der g w p i m r → Ders g w S m j s → Ders g w (p ∷ S) i j (r ++ s)

-- some derivation from place p between two positions
abbrev pub DerivesBy : Grammar → List ℕ → ℕ → ℕ → ℕ → Type 0
DerivesBy g w p i j = (r : List ℕ) × Der g w p i j r

-- a run of a stack as a big step of its top place and a run of the places under it
abbrev pub Split : Grammar → List ℕ → ℕ → List ℕ → ℕ → ℕ → List ℕ → Type 0
Split g w p S i j r = (m : ℕ) × (r₁ : List ℕ) × (r₂ : List ℕ) × Der g w p i m r₁ × Run g w S m j r₂ × (r ≡ r₁ ++ r₂)

-- the symbols that a stack still has to derive
unfoldable pub spells : Grammar → List ℕ → List Symbol
spells g [] = []
spells g (p ∷ S) = suffix g p ++ spells g S

-- alternative b of nonterminal a over the end place, up to the end of the marked note: how a whole note is read, a being 0
abbrev pub ReadsWhole : Grammar → ℕ → ℕ → List ℕ → List ℕ → Type 0
ReadsWhole g a b r w = (f : ℕ) × (first g a b ≡ some f) × Run g (marked w) (f ∷ end_place ∷ []) 0 (length (marked w)) r
