-- Which nonterminals derive some row of tokens, and which the empty row, as it is worked out: by rounds from the empty set, one round more than there are
-- nonterminals. proofs/Deriving says that this is the textbook's.
use Rattle.std.specs.Prelude.{Bool, true, false, ◌&&◌, List, [], ◌∷◌, ℕ, suc, length}
use Rattle.base.specs.Rounds.{rounds, any_of}
use Rattle.grammar.specs.declared.Symbol.{Symbol}
use Rattle.grammar.specs.declared.Symbol.TheVariants.{Token, Nonterminal, End}
use Rattle.grammar.specs.Grammar.{Grammar, alternatives, suffix}

-- The flag `tokens` is true for what derives some row of tokens, false for what derives the empty row.

-- every symbol of a list passes: a token if the flag says so, a nonterminal if X holds it, an end never
unfoldable pub passes : Bool → (ℕ → Bool) → List Symbol → Bool
passes tokens X [] = true
passes tokens X (Token k ∷ l) = let rest = passes tokens X l in tokens && rest
passes tokens X (Nonterminal a ∷ l) = let rest = passes tokens X l in X a && rest
passes tokens X (End ∷ l) = false

-- the same at a place, from what it faces and the answer one place on
abbrev pub passes_by : Bool → (ℕ → Bool) → Symbol → Bool → Bool
passes_by tokens X (Token k) rest = tokens && rest
passes_by tokens X (Nonterminal a) rest = X a && rest
passes_by tokens X End rest = true

-- one round: some production of a passes
unfoldable pub deriving_round : Bool → Grammar → (ℕ → Bool) → ℕ → Bool
unfolding passes any_of suffix alternatives
deriving_round tokens g X a = any_of (λ f. passes tokens X (suffix g f)) (alternatives g a)

-- a derives some row of tokens, or the empty row, as the flag says
unfoldable pub deriving? : Bool → Grammar → ℕ → Bool
unfolding rounds deriving_round
deriving? tokens g a = rounds (deriving_round tokens g) (suc (length g.starts)) a

-- the two flags by name: a derives some row of tokens; a derives the empty row
abbrev pub productive? : Grammar → ℕ → Bool
productive? g a = deriving? true g a

abbrev pub nullable? : Grammar → ℕ → Bool
nullable? g a = deriving? false g a
