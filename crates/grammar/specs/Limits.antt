-- The limits of a grammar (the scope, "Grammar bytes").
use Rattle.std.specs.Prelude.{ℕ}

-- the highest token kind, T
abbrev pub max_kinds : ℕ
max_kinds = 100

-- nonterminals, N
abbrev pub max_nonterminals : ℕ
max_nonterminals = 32

-- productions of a nonterminal
abbrev pub max_productions : ℕ
max_productions = 16

-- symbols of a production
abbrev pub max_length : ℕ
max_length = 30

-- places of all productions, P
abbrev pub max_places : ℕ
max_places = 255

-- the place behind the start symbol; it faces the end mark
abbrev pub end_place : ℕ
end_place = max_places

-- the token that ends every note
abbrev pub end_mark : ℕ
end_mark = 0

-- the owner of places that belong to no production
abbrev pub nobody : ℕ
nobody = max_nonterminals
