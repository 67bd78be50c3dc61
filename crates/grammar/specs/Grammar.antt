-- A grammar as a table of places: its productions laid out in the order of the bytes, one place before each symbol and one at each end.
use Rattle.std.specs.Prelude.{Bool, List, [], ◌∷◌, ◌++◌, ℕ, suc, ◌+◌, ◌-◌, ◌≤◌, eqb, length, get_or, drop, replicate}
use Rattle.std.proofs.Math.Option.{Option, none, some}
use Rattle.grammar.specs.Types.{Symbol, Token, Nonterminal, End, Place}
use Rattle.grammar.specs.Limits.{max_kinds, max_nonterminals, max_places, nobody, end_mark}
use Rattle.base.specs.Lists.{AllOf}
use Rattle.grammar.specs.Decode.{Rules, Alternatives}
use Rattle.grammar.specs.Derivation.{Syntax, oneth}

-- the highest kind, T; the number of places, P; the first place of each production of each nonterminal; the places, the end place included
pub record Grammar : Type 0 where
  pub kinds : ℕ
  pub size : ℕ
  pub starts : List (List ℕ)
  pub places : List Place

abbrev pub at : ℕ → Symbol → Place
at a s = record { owner = a; symbol = s }

-- what an index out of range reads
abbrev pub nowhere : Place
nowhere = at nobody End

-- ---- reading a grammar
-- place p
abbrev pub place_at : Grammar → ℕ → Place
place_at g p = get_or g.places p nowhere

-- what place p faces
unfoldable pub facing : Grammar → ℕ → Symbol
facing g p = (place_at g p).symbol

-- the nonterminal in whose production place p stands
unfoldable pub owner : Grammar → ℕ → ℕ
owner g p = (place_at g p).owner

-- may token t stand where kind k is called for
unfoldable pub admits : Grammar → ℕ → ℕ → Bool
admits g k t = eqb k t

-- the first places of the productions of nonterminal a
unfoldable pub alternatives : Grammar → ℕ → List ℕ
alternatives g a = get_or g.starts a []

-- the first place of alternative b of nonterminal a; alternatives count from 1
abbrev pub first : Grammar → ℕ → ℕ → Option ℕ
first g a b = oneth (alternatives g a) b

-- the symbols that a place begins, over those that follow it
abbrev pub before : Symbol → List Symbol → List Symbol
before (Token k) l = Token k ∷ l
before (Nonterminal a) l = Nonterminal a ∷ l
before End l = []

-- the symbols up to the first end
unfoldable pub spell : List Place → List Symbol
spell [] = []
spell (x ∷ l) = let rest = spell l in before x.symbol rest

-- the symbols from place p to its production's end
unfoldable pub suffix : Grammar → ℕ → List Symbol
unfolding spell
suffix g p = spell (drop p g.places)

-- production b of nonterminal a
unfoldable pub production : Grammar → ℕ → ℕ → Option (List Symbol)
unfolding suffix alternatives
production g a b = elim (first g a b) [ none ↦ none | some f ↦ some (suffix g f) ]

-- the syntax that a table of places holds
abbrev pub of_places : Grammar → Syntax
of_places g = record { admits = admits g; production = production g }

-- ---- laying rules out
-- the places of a production of a, of the productions of a, of the nonterminals from a on
unfoldable pub lay_one : ℕ → List Symbol → List Place
lay_one a [] = at a End ∷ []
lay_one a (x ∷ l) = at a x ∷ lay_one a l

unfoldable pub lay_each : ℕ → List (List Symbol) → List Place
unfolding lay_one
lay_each a [] = []
lay_each a (β ∷ l) = lay_one a β ++ lay_each a l

unfoldable pub lay_all : ℕ → List (List (List Symbol)) → List Place
unfolding lay_each
lay_all a [] = []
lay_all a (n ∷ l) = lay_each a n ++ lay_all (suc a) l

-- how many places productions have
unfoldable pub size_each : List (List Symbol) → ℕ
size_each [] = 0
size_each (β ∷ l) = suc (length β) + size_each l

unfoldable pub size_all : List (List (List Symbol)) → ℕ
unfolding size_each
size_all [] = 0
size_all (n ∷ l) = size_each n + size_all l

-- where productions begin, the first of them at place o
unfoldable pub starts_each : ℕ → List (List Symbol) → List ℕ
starts_each o [] = []
starts_each o (β ∷ l) = o ∷ starts_each (o + suc (length β)) l

unfoldable pub starts_all : ℕ → List (List (List Symbol)) → List (List ℕ)
unfolding starts_each size_each
starts_all o [] = []
starts_all o (n ∷ l) = starts_each o n ∷ starts_all (o + size_each n) l

-- as many places as there may be, those that no production has facing an end, and the end place, which faces the end mark
unfoldable pub padded : List Place → List Place
padded l = l ++ (replicate (max_places - length l) nowhere ++ (at nobody (Token end_mark) ∷ []))

-- rules as a table of places
unfoldable pub compile : Rules → Grammar
unfolding lay_all size_all starts_all padded
compile r = record {
  kinds = r.kinds;
  size = size_all r.productions;
  starts = starts_all 0 r.productions;
  places = padded (lay_all 0 r.productions);
}

-- rules within the limits: what every decoded grammar is
pub record Limited (r : Rules) : Type 0 where
  pub kinds-least : 1 ≤ r.kinds
  pub kinds-most : r.kinds ≤ max_kinds
  pub some : 1 ≤ length r.productions
  pub few : length r.productions ≤ max_nonterminals
  pub each : AllOf (Alternatives r.kinds (length r.productions)) r.productions
  pub small : size_all r.productions ≤ max_places
