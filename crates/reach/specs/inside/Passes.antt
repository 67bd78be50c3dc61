-- Steps of a reader of a note from point to point, and passes that follow them.
use Rattle.std.specs.Prelude.{◌≡◌, Bool, true, false, List, ℕ, suc, ◌≤◌, ◌<◌, T, length}
use Rattle.std.proofs.Math.Option.{some}
use Rattle.std.proofs.Math.ListN.{get_elem?}
use Rattle.grammar.specs.declared.Symbol.TheVariants.{Token, Nonterminal}
use Rattle.grammar.specs.Grammar.{Grammar, facing, admits, first}
use Rattle.grammar.specs.inside.Tables.{grammar_in, nonterminals_in}
use Rattle.positions.specs.inside.Positions.{position_count, member}
use Rattle.positions.specs.inside.Words.{total}
use Rattle.derivation.specs.inside.Ready.{Ready}
use Rattle.derivation.specs.inside.BigSteps.{Der}
use Rattle.derivation.specs.inside.Reach.{Reach}
use Rattle.cells.specs.inside.Chart.{Lent, Charted}
use Rattle.reach.specs.inside.Sets.{sets_words, place_set_words, PointInside, stands}

-- what the code goes by: tables, a note w, and its derivation cells
pub record Given (t w cs : List ℕ) : Type 0 where
  pub ready : Ready t
  pub lent : Lent (grammar_in t).size (length w) cs
  pub charted : Charted t w cs

-- and at position i the sets of the places
pub record StandsAt (t w cs : List ℕ) (i : ℕ) (sets : List ℕ) : Type 0 where
  pub given : Given t w cs
  pub here : i ≤ length w
  pub long : length sets ≡ sets_words

-- nonterminal a of the grammar may be entered at position i
pub record MayEnter (t sets : List ℕ) (a i : ℕ) : Type 0 where
  pub ready : Ready t
  pub named : a < nonterminals_in t
  pub position : i < position_count
  pub long : length sets ≡ sets_words

-- the first places of the productions of nonterminal a, at position i
abbrev pub Opening : Grammar → ℕ → ℕ → ℕ → ℕ → Type 0
Opening g a i p j = (b : ℕ) × (first g a b ≡ some p) × (j ≡ i)

-- one step leads a reader of w from place p at position i to the place and the position that follow: over a token that matches, into a production, or
-- behind a nonterminal where a production of it ends
pub data Leads (g : Grammar) (w : List ℕ) (p i : ℕ) : ℕ → ℕ → Type 0 where
  match : {k t : ℕ} → facing g p ≡ Token k → get_elem? w i ≡ some t → T (admits g k t) → Leads g w p i (suc p) (suc i)
  call : {a f : ℕ} (b : ℕ) → facing g p ≡ Nonterminal a → first g a b ≡ some f → Leads g w p i f i
  return : {a f m : ℕ} {r : List ℕ} (b : ℕ) → facing g p ≡ Nonterminal a → first g a b ≡ some f → Der g w f i m r → Leads g w p i (suc p) m

-- every point of the sets can be reached
abbrev pub Sound : Grammar → List ℕ → List ℕ → Type 0
Sound g w ws = (p j : ℕ) → PointInside p j → T (stands ws p j) → Reach g w p j

-- the sets hold all that one step leads to from position i, as far as it starts at a place below m
abbrev pub Closed : Grammar → List ℕ → ℕ → ℕ → List ℕ → Type 0
Closed g w m i ws = (p q j : ℕ) → p < m → T (stands ws p i) → Leads g w p i q j → T (stands ws q j)

-- the sets `after` are those `before` with points from position i on, all of which can be reached if those before could
pub record SetsGrown (g : Grammar) (w : List ℕ) (i : ℕ) (before after : List ℕ) : Type 0 where
  pub kept : (p j : ℕ) → PointInside p j → T (stands before p j) → T (stands after p j)
  pub early : (p j : ℕ) → PointInside p j → j < i → T (stands after p j) → T (stands before p j)
  pub sound : Sound g w before → Sound g w after

-- the sets hold all that one step leads to at position i from the places of the set `from`
pub record Stepped (t w : List ℕ) (i : ℕ) (from ws : List ℕ) : Type 0 where
  pub long : length from ≡ place_set_words
  pub made : (p q j : ℕ) → T (member from p) → p < (grammar_in t).size → Leads (grammar_in t) w p i q j → T (stands ws q j)

-- a pass over the places below m at position i; r says whether anything is new
pub record PassedTo (g : Grammar) (w : List ℕ) (m i : ℕ) (r : Bool) (before after : List ℕ) : Type 0 where
  pub sets : SetsGrown g w i before after
  pub same : r ≡ false → after ≡ before
  pub grown : r ≡ true → total before < total after
  pub closed : r ≡ false → Closed g w m i after

-- a pass over all places; `from` are those from which a step was made
pub record Passed (t w : List ℕ) (i : ℕ) (r : Bool) (before after from : List ℕ) : Type 0 where
  pub to : PassedTo (grammar_in t) w (grammar_in t).size i r before after
  pub stepped : Stepped t w i from after

-- passes until nothing is new
pub record PassesDone (t w : List ℕ) (i : ℕ) (before after : List ℕ) : Type 0 where
  pub sets : SetsGrown (grammar_in t) w i before after
  pub closed : Closed (grammar_in t) w (grammar_in t).size i after
