-- Configurations and the moves that close them (the scope, "What the cache learns"): once as the relation that the scope describes, once as a list
-- that is computed.
use Rattle.std.specs.Prelude.{◌≡◌, Bool, false, cond, ℕ, suc, eqb, ◌<◌, length}
use Rattle.std.proofs.Math.Option.{some}
use mathlib.Core.List.{List, [], ◌∷◌, ◌++◌, map, Memᴰ}
use Rattle.grammar.specs.declared.Symbol.{Symbol}
use Rattle.grammar.specs.declared.Symbol.TheVariants.{Token, Nonterminal, End}
use Rattle.grammar.specs.declared.Place.{Place}
use Rattle.grammar.specs.Limits.{end_place}
use Rattle.grammar.specs.Grammar.{Grammar, facing, owner, alternatives, first}

-- an ATN configuration: a place, the alternative of the decision that led to it, and the return places over an unknown caller, innermost first
pub record Config : Type 0 where
  pub place : ℕ
  pub alternative : ℕ
  pub stack : List ℕ

abbrev pub config : ℕ → ℕ → List ℕ → Config
config p b s = record { place = p; alternative = b; stack = s }

-- from before a nonterminal into its production with first place f, over the return place
abbrev pub into : Config → ℕ → Config
into c f = config f c.alternative (suc c.place ∷ c.stack)

-- x is a member of the list
abbrev pub In : {A : Type 0} → A → List A → Type 0
In x l = Memᴰ x l

-- ---- as a relation
-- one closure move
pub data Moves (g : Grammar) (c : Config) : Config → Type 0 where
  -- before a nonterminal: enter any of its productions and push the return place, always
  enter : {a f : ℕ} (b : ℕ) → facing g c.place ≡ Nonterminal a → first g a b ≡ some f → Moves g c (into c f)
  -- at a production's end: pop
  pop : {r : ℕ} {s : List ℕ} → facing g c.place ≡ End → c.stack ≡ r ∷ s → Moves g c (config r c.alternative s)
  -- with an empty stack: go behind any occurrence of that nonterminal in the grammar
  behind : {q : ℕ} → facing g c.place ≡ End → c.stack ≡ [] → facing g q ≡ Nonterminal (owner g c.place)
      → Moves g c (config (suc q) c.alternative [])
  -- and, for the start symbol, to the end place
  end : facing g c.place ≡ End → c.stack ≡ [] → owner g c.place ≡ 0 → Moves g c (config end_place c.alternative [])

-- the closure of some configurations: all that the moves reach from them
pub data Closes (g : Grammar) (start : List Config) : Config → Type 0 where
  from : {c : Config} → In c start → Closes g start c
  move : {c d : Config} → Closes g start c → Moves g c d → Closes g start d

-- ---- as a list
-- the symbol is nonterminal a
abbrev pub calls? : ℕ → Symbol → Bool
calls? a (Token k) = false
calls? a (Nonterminal b) = eqb b a
calls? a End = false

-- the places behind the occurrences of nonterminal a in a list of places, the first of which is place p
unfoldable pub behind_from : ℕ → ℕ → List Place → List ℕ
behind_from a p [] = []
behind_from a p (x ∷ l) = let rest = behind_from a (suc p) l in cond (calls? a x.symbol) (suc p ∷ rest) rest

-- where nonterminal a may return to in an unknown caller: behind every occurrence and, for the start symbol, to the end place
unfoldable pub follows : Grammar → ℕ → List ℕ
unfolding behind_from
follows g a = behind_from a 0 g.places ++ cond (eqb a 0) (end_place ∷ []) []

-- before nonterminal a: enter all its productions and push the return place
unfoldable pub entered : Grammar → Config → ℕ → List Config
unfolding alternatives
entered g c a = map (into c) (alternatives g a)

-- at a production's end, over this stack: pop, or return into an unknown caller
unfoldable pub returned : Grammar → Config → List ℕ → List Config
unfolding follows owner
returned g c [] = map (λ (q : ℕ). config q c.alternative []) (follows g (owner g c.place))
returned g c (r ∷ s) = config r c.alternative s ∷ []

-- the moves of a configuration that faces this symbol
unfoldable pub moves_at : Grammar → Config → Symbol → List Config
unfolding entered returned
moves_at g c (Token k) = []
moves_at g c (Nonterminal a) = entered g c a
moves_at g c End = returned g c c.stack

-- the moves of a configuration
unfoldable pub moves : Grammar → Config → List Config
unfolding moves_at facing
moves g c = moves_at g c (facing g c.place)

-- a nonterminal of two or more productions
abbrev pub Decides : Grammar → ℕ → Type 0
Decides g a = 1 < length (alternatives g a)
