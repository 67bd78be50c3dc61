-- Entries: the nonterminals that are open, each with the position at which it was entered and the place at which it waits.
use Rattle.std.specs.Prelude.{◌≡◌, List, [], ◌∷◌, ℕ, suc, ◌≤◌, length}
use Rattle.std.proofs.Math.Option.{some}
use Rattle.grammar.specs.declared.Symbol.TheVariants.{Nonterminal}
use Rattle.grammar.specs.Grammar.{Grammar, facing, owner, first, of_places}
use Rattle.grammar.specs.Derivation.{Derives}
use Rattle.derivation.specs.inside.Steps.{Quiet}
use Rattle.derivation.specs.inside.Frames.{returns_of}

-- ---- the part of a production from f up to p derives the empty row, symbol by symbol
pub data Blank (g : Grammar) (f : ℕ) : ℕ → Type 0 where
  here : Blank g f f
  on : {p a : ℕ} → Blank g f p → facing g p ≡ Nonterminal a → Derives (of_places g) (Nonterminal a ∷ []) [] → Blank g f (suc p)

-- ---- entries: a nonterminal that is open, the position at which it was entered, and the place at which it calls and waits
pub record Entry : Type 0 where
  pub who : ℕ
  pub since : ℕ
  pub call : ℕ

abbrev pub entry : ℕ → ℕ → ℕ → Entry
entry a e p = record { who = a; since = e; call = p }

-- place p of a production of a, which was entered at e, is reached at i; if nothing was read since, all before p derived the empty row
pub record Inside (g : Grammar) (a e p i : ℕ) : Type 0 where
  pub alternative : ℕ
  pub start : ℕ
  pub begins : first g a alternative ≡ some start
  pub own : owner g p ≡ a
  pub forward : e ≤ i
  pub blank : e ≡ i → Blank g start p

-- return places over the ground G, and the entries that they belong to, below a nonterminal c that was entered at i
pub data Below (g : Grammar) (G : List ℕ) : List ℕ → List Entry → ℕ → ℕ → Type 0 where
  ground : {c i : ℕ} → Below g G G [] c i
  wait : {a e p c i : ℕ} {S : List ℕ} {E : List Entry} → Inside g a e p i → facing g p ≡ Nonterminal c → Below g G S E a e
      → Below g G (suc p ∷ S) (entry a e p ∷ E) c i

-- the states of the machine over a note of n tokens: a production is open, or only the ground is left
pub data Open (g : Grammar) (G : List ℕ) (n : ℕ) : List ℕ → ℕ → Type 0 where
  inside : {a e p i : ℕ} {S : List ℕ} {E : List Entry} → i ≤ n → Inside g a e p i → Below g G S E a e → Open g G n (p ∷ S) i
  quiet : {i : ℕ} {S : List ℕ} → Quiet g S → length S ≤ length G → Open g G n S i

-- ---- the loop's invariant: place p over the return places of d frames in the words, at position i
abbrev pub FramesOpen : Grammar → List ℕ → ℕ → List ℕ → ℕ → ℕ → ℕ → ℕ → Type 0
FramesOpen g G n ws base d p i = Open g G n (p ∷ returns_of ws base d) i
