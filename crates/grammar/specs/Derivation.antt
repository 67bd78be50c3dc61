-- Derivations, as in any textbook: a list of symbols derives a row of tokens.
use Rattle.std.specs.Prelude.{◌≡◌, Bool, List, [], ◌∷◌, ◌++◌, ℕ, zero, suc, T, eqb, get_or}
use Rattle.std.proofs.Math.Option.{Option, none, some}
use Rattle.std.proofs.Math.ListN.{get_elem?}
use Rattle.grammar.specs.Types.{Symbol, Token, Nonterminal}
use Rattle.grammar.specs.Decode.{Rules}

-- a look-up of productions, however they are held: may token t stand where kind k is called for (k first), and production b of nonterminal a (a first);
-- alternatives count from 1
pub record Syntax : Type 0 where
  pub admits : ℕ → ℕ → Bool
  pub production : ℕ → ℕ → Option (List Symbol)

-- the leftmost derivation of a row of tokens (the second list) from a list of symbols, with the alternatives that it takes, in order (the first list)
pub data Leftmost (g : Syntax) : List Symbol → List ℕ → List ℕ → Type 0 where
  done : Leftmost g [] [] []
  match : {k t : ℕ} {α : List Symbol} {r w : List ℕ} → T (g.admits k t) → Leftmost g α r w → Leftmost g (Token k ∷ α) r (t ∷ w)
  expand : {a b : ℕ} {β α : List Symbol} {r w : List ℕ} → g.production a b ≡ some β → Leftmost g (β ++ α) r w
      → Leftmost g (Nonterminal a ∷ α) (b ∷ r) w

-- a list of symbols derives a row of tokens
abbrev pub Derives : Syntax → List Symbol → List ℕ → Type 0
Derives g α w = (r : List ℕ) × Leftmost g α r w

-- an element of a list, counted from 1
abbrev pub oneth : {A : Type 0} → List A → ℕ → Option A
oneth l zero = none
oneth l (suc n) = get_elem? l n

-- the syntax that rules say: productions as they are written, and a token stands where its own number is called for
abbrev pub of_rules : Rules → Syntax
of_rules r = record { admits = λ k t. eqb k t; production = λ a b. oneth (get_or r.productions a []) b }
