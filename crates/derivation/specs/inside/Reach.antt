-- The places of the grammar that a beginning of a note leads to: they help to find where a note goes wrong.
use Rattle.std.specs.Prelude.{◌≡◌, List, ℕ, suc, T}
use Rattle.std.proofs.Math.Option.{some}
use Rattle.std.proofs.Math.ListN.{get_elem?}
use Rattle.grammar.specs.declared.Symbol.TheVariants.{Token, Nonterminal}
use Rattle.grammar.specs.Grammar.{Grammar, facing, admits, first, suffix, of_places}
use Rattle.grammar.specs.Derivation.{Derives}
use Rattle.derivation.specs.inside.BigSteps.{Der}

-- what is left of every production, from any place on, derives something
abbrev pub Rich : Grammar → Type 0
Rich g = (p : ℕ) → (v : List ℕ) × Derives (of_places g) (suffix g p) v

-- a reader of w can stand at the first of these two, a place of the grammar, when it has read so many tokens as the second: it starts at a production
-- of the start symbol, passes a token that matches, goes into a production of a nonterminal, and comes back when that production has derived something
pub data Reach (g : Grammar) (w : List ℕ) : ℕ → ℕ → Type 0 where
  start : {f : ℕ} (b : ℕ) → first g 0 b ≡ some f → Reach g w f 0
  match : {p k t i : ℕ} → Reach g w p i → facing g p ≡ Token k → get_elem? w i ≡ some t → T (admits g k t) → Reach g w (suc p) (suc i)
  call : {p a f i : ℕ} (b : ℕ) → Reach g w p i → facing g p ≡ Nonterminal a → first g a b ≡ some f → Reach g w f i
  return : {p a f i m : ℕ} {r : List ℕ} (b : ℕ) → Reach g w p i → facing g p ≡ Nonterminal a → first g a b ≡ some f → Der g w f i m r
      → Reach g w (suc p) m

-- some place can be reached after k tokens of w
abbrev pub Arrives : Grammar → List ℕ → ℕ → Type 0
Arrives g w k = (p : ℕ) × Reach g w p k
