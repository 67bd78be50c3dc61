-- Sentences, their beginnings, and where a note that is no sentence goes wrong (refusal 10).
use Rattle.std.specs.Prelude.{List, [], ◌∷◌, ◌++◌, ℕ, suc, ◌≤◌, ◌<◌, length, take}
use Rattle.grammar.specs.declared.Symbol.TheVariants.{Nonterminal}
use Rattle.grammar.specs.Derivation.{Syntax, Derives}

-- w is a sentence: the start symbol derives it
abbrev pub Sentence : Syntax → List ℕ → Type 0
Sentence g w = Derives g (Nonterminal 0 ∷ []) w

-- some sentence begins with u
abbrev pub Viable : Syntax → List ℕ → Type 0
Viable g u = (v : List ℕ) × Sentence g (u ++ v)

-- w goes wrong at k: w is no sentence, its first k tokens begin one, and token k, if w has one, can't follow them in any; k is the length of w if w
-- breaks off too early
pub record WrongAt (g : Syntax) (w : List ℕ) (k : ℕ) : Type 0 where
  pub no-sentence : ¬ Sentence g w
  pub inside : k ≤ length w
  pub begins : Viable g (take k w)
  pub ends : k < length w → ¬ Viable g (take (suc k) w)
