-- Derivations that pass the filter: where the production of a nonterminal ends, the token there may follow that nonterminal. And where they end.
use Rattle.std.specs.Prelude.{◌≡◌, ◌↔◌, List, [], ◌∷◌, ◌++◌, ℕ, suc, ◌≤◌, ◌<◌, T, length}
use Rattle.std.proofs.Math.Option.{some}
use Rattle.std.proofs.Math.ListN.{get_elem?}
use Rattle.grammar.specs.declared.Symbol.TheVariants.{Token, Nonterminal, End}
use Rattle.grammar.specs.Grammar.{Grammar, facing, admits, first}
use Rattle.first_follow.specs.inside.Masks.{Masks}
use Rattle.filtering.specs.inside.Beginnings.{token_at}

-- `Der` with the filter at the end of every production that is entered
pub data DerF (g : Grammar) (M : Masks) (w : List ℕ) : ℕ → ℕ → ℕ → List ℕ → Type 0 where
  finish : {p i : ℕ} → facing g p ≡ End → i ≤ length w → DerF g M w p i i []
  match : {p k t i j : ℕ} {r : List ℕ} → facing g p ≡ Token k → get_elem? w i ≡ some t → T (admits g k t) → DerF g M w (suc p) (suc i) j r
      → DerF g M w p i j r
  expand : {p a b f i m j : ℕ} {r s : List ℕ} → facing g p ≡ Nonterminal a → first g a b ≡ some f → DerF g M w f i m r
      → T (M.follows (token_at w m) a) → DerF g M w (suc p) m j s → DerF g M w p i j (b ∷ (r ++ s))

-- j is an end of place p from i: what is left of p's production derives the stretch, and passes the filter
abbrev pub Ends : Grammar → Masks → List ℕ → ℕ → ℕ → ℕ → Type 0
Ends g M w p i j = (r : List ℕ) × DerF g M w p i j r

-- m is an end of alternative b of nonterminal a from i, and its token may follow a
abbrev pub EndsBy : Grammar → Masks → List ℕ → ℕ → ℕ → ℕ → ℕ → Type 0
EndsBy g M w a i b m = (f : ℕ) × (first g a b ≡ some f) × Ends g M w f i m × T (M.follows (token_at w m) a)

-- m is an end of the pair (a, i): of nonterminal a, begun at position i
abbrev pub PairEnds : Grammar → Masks → List ℕ → ℕ → ℕ → ℕ → Type 0
PairEnds g M w a i m = (b : ℕ) × EndsBy g M w a i b m

-- one symbol: place p passes from position i to position m, by the token at i or by a pair's end
pub data Over (g : Grammar) (M : Masks) (w : List ℕ) (p i : ℕ) : ℕ → Type 0 where
  token : {k t : ℕ} → facing g p ≡ Token k → get_elem? w i ≡ some t → T (admits g k t) → Over g M w p i (suc i)
  call : {a m : ℕ} → facing g p ≡ Nonterminal a → PairEnds g M w a i m → Over g M w p i m

-- j is an end of place p from some member of a set of positions
abbrev pub EndsFrom : Grammar → Masks → List ℕ → (ℕ → Type 0) → ℕ → ℕ → Type 0
EndsFrom g M w X p j = (m : ℕ) × X m × Ends g M w p m j

-- Y is where place p leads, over its symbol, from the members of X that are below n: what a loop over the members of X in rising order has found
abbrev pub LeadsBelow : Grammar → Masks → List ℕ → ℕ → (ℕ → Type 0) → ℕ → (ℕ → Type 0) → Type 0
LeadsBelow g M w p X n Y = (m : ℕ) → Y m ↔ ((j : ℕ) × X j × (j < n) × Over g M w p j m)

-- the same from all members of X
abbrev pub Leads : Grammar → Masks → List ℕ → ℕ → (ℕ → Type 0) → (ℕ → Type 0) → Type 0
Leads g M w p X Y = (m : ℕ) → Y m ↔ ((j : ℕ) × X j × Over g M w p j m)
