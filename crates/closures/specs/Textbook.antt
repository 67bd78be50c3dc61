-- What makes a grammar sound, as in any textbook: every nonterminal derives some row of tokens, and none leads back to itself without a token.
use Rattle.std.specs.Prelude.{◌≡◌, List, [], ◌∷◌, ◌++◌, ℕ}
use Rattle.std.proofs.Math.Option.{some}
use Rattle.grammar.specs.declared.Symbol.{Symbol}
use Rattle.grammar.specs.declared.Symbol.TheVariants.{Nonterminal}
use Rattle.grammar.specs.Derivation.{Syntax, Derives}

-- nonterminal a derives some row of tokens
abbrev pub Productive : Syntax → ℕ → Type 0
Productive g a = (w : List ℕ) × Derives g (Nonterminal a ∷ []) w

-- every symbol of the list derives the empty row
pub data Vanishing (g : Syntax) : List Symbol → Type 0 where
  nil : Vanishing g []
  also : {x : Symbol} {α : List Symbol} → Derives g (x ∷ []) [] → Vanishing g α → Vanishing g (x ∷ α)

-- nonterminal c stands in a production of a behind only symbols that derive the empty row
pub record Move (g : Syntax) (a c : ℕ) : Type 0 where
  pub alternative : ℕ
  pub ahead : List Symbol
  pub behind : List Symbol
  pub stands : g.production a alternative ≡ some (ahead ++ (Nonterminal c ∷ behind))
  pub empty : Vanishing g ahead

-- one or more moves lead from a to c
pub data Reaches (g : Syntax) : ℕ → ℕ → Type 0 where
  one : {a c : ℕ} → Move g a c → Reaches g a c
  more : {a b c : ℕ} → Move g a b → Reaches g b c → Reaches g a c

-- moves lead from a back to a
abbrev pub LeftRecursive : Syntax → ℕ → Type 0
LeftRecursive g a = Reaches g a a
