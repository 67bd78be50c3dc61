-- The bytes of rules: the numbers that a grammar is written in, in their order, each in its shortest form.
use mathlib.Core.List.{List, [], ◌∷◌, ◌++◌, flat_map}
use Rattle.std.specs.Prelude.{ℕ, suc, ◌*◌, length}
use Rattle.number.specs.Number.{shortest}
use Rattle.grammar.specs.Types.{Symbol, Token, Nonterminal, End}
use Rattle.grammar.specs.Decode.{Rules}

-- a number of a grammar, and what it says
pub data Part : Type 0 where
  highest_kind : ℕ → Part
  nonterminal_count : ℕ → Part
  production_count : ℕ → Part
  symbol_count : ℕ → Part
  one_symbol : Symbol → Part

-- the number that writes a symbol: token t is written 2t, nonterminal a as 2a+1; no production has an end in it
abbrev pub symbol_number : Symbol → ℕ
symbol_number (Token t) = 2 * t
symbol_number (Nonterminal a) = suc (2 * a)
symbol_number End = 0

-- the number that is written
abbrev pub number_of : Part → ℕ
number_of (highest_kind v) = v
number_of (nonterminal_count v) = v
number_of (production_count v) = v
number_of (symbol_count v) = v
number_of (one_symbol x) = symbol_number x

-- a production: its length and its symbols
unfoldable pub production_parts : List Symbol → List Part
unfolding flat_map
production_parts β = symbol_count (length β) ∷ flat_map (λ x. one_symbol x ∷ []) β

-- a nonterminal: the number of its productions, and each of them
unfoldable pub nonterminal_parts : List (List Symbol) → List Part
unfolding flat_map production_parts
nonterminal_parts l = production_count (length l) ∷ flat_map production_parts l

-- rules: the highest kind, the number of nonterminals, and each of them
unfoldable pub parts_of : Rules → List Part
unfolding flat_map nonterminal_parts
parts_of r = highest_kind r.kinds ∷ nonterminal_count (length r.productions) ∷ flat_map nonterminal_parts r.productions

-- numbers as bytes, each in its shortest form
unfoldable pub bytes_of : List Part → List ℕ
unfolding shortest
bytes_of [] = []
bytes_of (x ∷ l) = shortest (number_of x) ++ bytes_of l

-- the bytes of rules
unfoldable pub encode : Rules → List ℕ
unfolding bytes_of parts_of
encode r = bytes_of (parts_of r)
