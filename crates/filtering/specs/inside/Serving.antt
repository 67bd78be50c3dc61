-- What ends tell of alternatives that serve: the alternative of a single end, and a second way to read the rest.
use Rattle.std.specs.Prelude.{◌≡◌, List, ◌∷◌, ℕ, suc, T, eqb}
use Rattle.std.proofs.Math.Option.{some}
use Rattle.std.proofs.Math.ListN.{get_elem?}
use Rattle.grammar.specs.declared.Symbol.TheVariants.{Token, Nonterminal, End}
use Rattle.grammar.specs.Grammar.{Grammar, facing, admits, first}
use Rattle.derivation.specs.Runs.{Opens, Serves}
use Rattle.derivation.specs.Cells.{derives?, runs?}
use Rattle.derivation.specs.Machine.{lowest}

-- over the stack S, at i, alternative b of nonterminal a is the plain chooser's; it ends at m, from where the rest is read; and of all ends of its production
-- only m leads on
pub record Single (g : Grammar) (w : List ℕ) (S : List ℕ) (a i m b : ℕ) : Type 0 where
  pub chosen : lowest g w S a i ≡ some b
  pub serves : Serves g w S a i b
  pub opens : Opens g w S m
  pub sets : (f n : ℕ) → first g a b ≡ some f → T (derives? g w f i n) → eqb n m ≡ runs? g w S n

-- along the run that takes the alternatives of the last list, another alternative serves somewhere
pub data Second (g : Grammar) (w : List ℕ) : List ℕ → ℕ → List ℕ → Type 0 where
  here : {p a b i : ℕ} {S r : List ℕ} (c : ℕ) → facing g p ≡ Nonterminal a → ¬ (c ≡ b) → Serves g w (suc p ∷ S) a i c → Second g w (p ∷ S) i (b ∷ r)
  finish : {p i : ℕ} {S r : List ℕ} → facing g p ≡ End → Second g w S i r → Second g w (p ∷ S) i r
  match : {p k t i : ℕ} {S r : List ℕ} → facing g p ≡ Token k → get_elem? w i ≡ some t → T (admits g k t) → Second g w (suc p ∷ S) (suc i) r
      → Second g w (p ∷ S) i r
  expand : {p a b f i : ℕ} {S r : List ℕ} → facing g p ≡ Nonterminal a → first g a b ≡ some f → Second g w (f ∷ suc p ∷ S) i r
      → Second g w (p ∷ S) i (b ∷ r)
