-- How far a search for ends came: the points that walks through the alternatives of worked out pairs come to, and the pairs that a note calls.
use Rattle.std.specs.Prelude.{◌≡◌, ◌⊎◌, Bool, List, ℕ, suc, ◌≤◌, T}
use Rattle.std.proofs.Math.Option.{some}
use Rattle.grammar.specs.declared.Symbol.TheVariants.{Nonterminal}
use Rattle.grammar.specs.Grammar.{Grammar, facing, first}
use Rattle.derivation.specs.inside.Reach.{Reach}
use Rattle.first_follow.specs.inside.Masks.{Masks}
use Rattle.filtering.specs.inside.Beginnings.{token_at}
use Rattle.filtering.specs.inside.Filtered.{Over}

-- a walk from place f at i comes to a place and a position, symbol by symbol
pub data Walks (g : Grammar) (M : Masks) (w : List ℕ) (f i : ℕ) : ℕ → ℕ → Type 0 where
  here : Walks g M w f i f i
  on : {p j m : ℕ} → Walks g M w f i p j → Over g M w p j m → Walks g M w f i (suc p) m

-- pair (a, i) is worked out, or the token at i is none that a starts with, so that nobody works it out
abbrev pub Asked : Masks → List ℕ → (ℕ → ℕ → Bool) → ℕ → ℕ → Type 0
Asked M w done a i = T (done a i) ⊎ ¬ T (M.starts (token_at w i) a)

-- no walk from place f at i comes behind `high`, and whatever it meets was asked
pub record CoveredFrom (g : Grammar) (M : Masks) (w : List ℕ) (done : ℕ → ℕ → Bool) (high f i : ℕ) : Type 0 where
  pub within : (q k : ℕ) → Walks g M w f i q k → k ≤ high
  pub asked : (q k c : ℕ) → Walks g M w f i q k → facing g q ≡ Nonterminal c → Asked M w done c k

-- the same of the alternatives of pair (a, i) up to k
abbrev pub CoveredTo : Grammar → Masks → List ℕ → (ℕ → ℕ → Bool) → ℕ → ℕ → ℕ → ℕ → Type 0
CoveredTo g M w done high a i k = (b f : ℕ) → b ≤ k → first g a b ≡ some f → CoveredFrom g M w done high f i

-- the same of every alternative of every pair that is worked out
abbrev pub Covered : Grammar → Masks → List ℕ → (ℕ → ℕ → Bool) → ℕ → Type 0
Covered g M w done high = (a i b f : ℕ) → T (done a i) → first g a b ≡ some f → CoveredFrom g M w done high f i

-- pair (a, i) is called: some place that calls a is reached at i, or a is the start symbol and i the note's beginning
pub data Called (g : Grammar) (w : List ℕ) : ℕ → ℕ → Type 0 where
  begins : Called g w 0 0
  behind : {p a i : ℕ} → Reach g w p i → facing g p ≡ Nonterminal a → Called g w a i
