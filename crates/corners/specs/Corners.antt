-- Where moves lead, as it is worked out: by rounds from the empty set, one round more than there are nonterminals. proofs/LeftRecursion says that this is the
-- textbook's.
use Rattle.std.specs.Prelude.{Bool, false, ◌&&◌, ◌||◌, List, [], ◌∷◌, ◌≡◌, ℕ, suc, ◌<◌, eqb, length, get_or}
use Rattle.base.specs.Bits.{test_bit}
use Rattle.base.specs.Rounds.{rounds, any_of, up_from}
use Rattle.grammar.specs.declared.Symbol.{Symbol}
use Rattle.grammar.specs.declared.Symbol.TheVariants.{Token, Nonterminal, End}
use Rattle.grammar.specs.Grammar.{Grammar, alternatives, suffix}
use Rattle.grammar.specs.inside.Tables.{grammar_in, nonterminals_in, corner_row}
use Rattle.closures.specs.Closures.{deriving?, nullable?}

-- c stands in a list behind only nonterminals that X holds
unfoldable pub leads : (ℕ → Bool) → ℕ → List Symbol → Bool
leads X c [] = false
leads X c (Token k ∷ l) = false
leads X c (Nonterminal b ∷ l) = let rest = leads X c l in eqb b c || (X b && rest)
leads X c (End ∷ l) = false

-- the same at a place, from what it faces and the answer one place on
abbrev pub leads_by : (ℕ → Bool) → ℕ → Symbol → Bool → Bool
leads_by X c (Token k) rest = false
leads_by X c (Nonterminal b) rest = eqb b c || (X b && rest)
leads_by X c End rest = false

-- a move leads from a to c
unfoldable pub move? : Grammar → ℕ → ℕ → Bool
unfolding leads deriving? any_of suffix alternatives
move? g a c = any_of (λ f. leads (nullable? g) c (suffix g f)) (alternatives g a)

-- the rows of bits say where one move leads from each nonterminal below n
unfoldable pub Corners : Grammar → ℕ → List ℕ → Type 0
unfolding move?
Corners g n rows = (a c : ℕ) → a < n → test_bit (get_or rows a 0) c ≡ move? g a c

-- tables hold those rows, of the grammar that they say
unfoldable pub Cornered : List ℕ → Type 0
unfolding move?
Cornered t = (a c : ℕ) → a < nonterminals_in t → test_bit (corner_row t a) c ≡ move? (grammar_in t) a c

-- one round: a move leads from a to c, or to a nonterminal that X holds
unfoldable pub reaches_round : Grammar → ℕ → (ℕ → Bool) → ℕ → Bool
unfolding move? any_of up_from
reaches_round g c X a = let rest = any_of (λ b. move? g a b && X b) (up_from 0 (length g.starts)) in move? g a c || rest

-- one or more moves lead from a to c
unfoldable pub reaches? : Grammar → ℕ → ℕ → Bool
unfolding rounds reaches_round
reaches? g a c = rounds (reaches_round g c) (suc (length g.starts)) a

-- moves lead from a back to a
unfoldable pub left_recursive? : Grammar → ℕ → Bool
unfolding reaches?
left_recursive? g a = reaches? g a a
