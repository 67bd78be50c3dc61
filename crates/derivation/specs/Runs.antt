-- Derivations by places and positions: what a stack of places derives between two positions of a note. Position i stands before token i; the
-- positions of a note w are 0 to length w, and no derivation leaves them.
use Rattle.std.specs.Prelude.{◌≡◌, List, [], ◌∷◌, ◌++◌, ℕ, suc, ◌≤◌, T, length}
use Rattle.std.proofs.Math.Option.{some}
use Rattle.std.proofs.Math.ListN.{get_elem?}
use Rattle.grammar.specs.declared.Symbol.TheVariants.{Token, Nonterminal, End}
use Rattle.grammar.specs.Limits.{end_mark}
use Rattle.grammar.specs.Grammar.{Grammar, facing, admits, first}

-- the machine, a step at a time: the open stack of places derives the tokens of w from i up to j, taking the alternatives of the last list in order
pub data Run (g : Grammar) (w : List ℕ) : List ℕ → ℕ → ℕ → List ℕ → Type 0 where
  done : {i : ℕ} → i ≤ length w → Run g w [] i i []
  finish : {p : ℕ} {S : List ℕ} {i j : ℕ} {r : List ℕ} → facing g p ≡ End → Run g w S i j r → Run g w (p ∷ S) i j r
  match : {p k t : ℕ} {S : List ℕ} {i j : ℕ} {r : List ℕ} → facing g p ≡ Token k → get_elem? w i ≡ some t → T (admits g k t)
      → Run g w (suc p ∷ S) (suc i) j r → Run g w (p ∷ S) i j r
  expand : {p a b f : ℕ} {S : List ℕ} {i j : ℕ} {r : List ℕ} → facing g p ≡ Nonterminal a → first g a b ≡ some f
      → Run g w (f ∷ suc p ∷ S) i j r → Run g w (p ∷ S) i j (b ∷ r)

-- some run of an open stack from a position up to the note's end
abbrev pub Opens : Grammar → List ℕ → List ℕ → ℕ → Type 0
Opens g w S i = (r : List ℕ) × Run g w S i (length w) r

-- a note with the end mark behind it: the row that is read
abbrev pub marked : List ℕ → List ℕ
marked w = w ++ (end_mark ∷ [])

-- with alternative b of nonterminal a over the open stack S the rest of the note from i on can be read
abbrev pub Serves : Grammar → List ℕ → List ℕ → ℕ → ℕ → ℕ → Type 0
Serves g w S a i b = (f : ℕ) × (first g a b ≡ some f) × Opens g w (f ∷ S) i
