-- One step more of the machine, by what the topmost place faces, under any chooser; and outcomes behind the alternatives that a row already holds.
use mathlib.Core.Path.{◌≡◌, refl, ap, ◌∙◌}
use mathlib.Core.Bool.{false}
use mathlib.Core.Option.{none, some}
use mathlib.Core.List.{List, [], ◌∷◌, ◌++◌}
use Prim.Native.Nat.{ℕ, zero, suc, ◌<◌}
use native.Mathlib.Omega.{arith}
use lib.Dec.{T}
use lib.ListN.{length, get_elem?, take, set}
use borrow.Author.Tests.{eq-eqb, ne_eqb}
use Rattle.base.proofs.Booleans.{T→true}
use Rattle.grammar.specs.declared.Symbol.TheVariants.{Token, Nonterminal, End}
use Rattle.grammar.specs.Grammar.{Grammar, facing, admits, first}
use Rattle.derivation.specs.Machine.{Chooser, Conclusion, accepted, stuck, full, prefix, after, Ended, ended, beyond, on_token, on_choice}
use Rattle.derivation.specs.Machine.{on_call, on_symbol, step, prefixed, run, run_call}
use Rattle.derivation.specs.inside.Choosers.{names, thence}

-- ---- the alternatives of a list, and then an outcome
pub after-accepted : (l : List ℕ) → after l (accepted []) ≡ accepted l
unfolding after
after-accepted [] = refl
after-accepted (b ∷ l) = ap (prefix b) (after-accepted l)

pub after-stuck : (l : List ℕ) → after l stuck ≡ stuck
unfolding after
after-stuck [] = refl
after-stuck (b ∷ l) = ap (prefix b) (after-stuck l)

pub after-full : (l : List ℕ) → after l full ≡ full
unfolding after
after-full [] = refl
after-full (b ∷ l) = ap (prefix b) (after-full l)

after-snoc : (l : List ℕ) (b : ℕ) (o : Conclusion) → after (l ++ (b ∷ [])) o ≡ after l (prefix b o)
unfolding after
after-snoc [] b o = refl
after-snoc (c ∷ l) b o = ap (prefix c) (after-snoc l b o)

-- an entry more in the row
take-set : (row : List ℕ) (k b : ℕ) → k < length row → take (suc k) (set row k b) ≡ take k row ++ (b ∷ [])
take-set [] k b l = absurd (omega arith)
take-set (x ∷ row) zero b l = refl
take-set (x ∷ row) (suc k) b l = ap {B = List ℕ} (λ m. x ∷ m) (take-set row k b (omega arith))

pub after-entry : (row : List ℕ) (k b : ℕ) (o : Conclusion) → k < length row → after (take (suc k) (set row k b)) o ≡ after (take k row) (prefix b o)
after-entry row k b o l = ap (λ (m : List ℕ). after m o) (take-set row k b l) ∙ after-snoc (take k row) b o

pub beyond-entry : {C : Type 0} (row : List ℕ) (k b : ℕ) (e : Ended C) → k < length row
    → beyond (take (suc k) (set row k b)) e ≡ beyond (take k row) (prefixed b e)
beyond-entry row k b e l = ap (λ (o : Conclusion). ended o e.state) (after-entry row k b e.outcome l)

-- ---- one step more
module _ {C : Type 0} (g : Grammar) (w : List ℕ) (choose : Chooser C) (k p : ℕ) (S : List ℕ) (i room : ℕ) (c : C) where
  pub run_end : facing g p ≡ End → run g w choose (suc k) (p ∷ S) i room c ≡ run g w choose k S i room c
  unfolding run step on_symbol
  run_end e = rw e

  pub run-match : {d u : ℕ} → facing g p ≡ Token d → get_elem? w i ≡ some u → T (admits g d u)
      → run g w choose (suc k) (p ∷ S) i room c ≡ run g w choose k (suc p ∷ S) (suc i) room c
  unfolding run step on_symbol on_token
  run-match {d} {u} e f a = rw (e, f, T→true (admits g d u) a)

  pub run_none : {d : ℕ} → facing g p ≡ Token d → get_elem? w i ≡ none → run g w choose (suc k) (p ∷ S) i room c ≡ ended stuck c
  unfolding run step on_symbol on_token
  run_none e f = rw (e, f)

  pub run-other : {d u : ℕ} → facing g p ≡ Token d → get_elem? w i ≡ some u → admits g d u ≡ false
      → run g w choose (suc k) (p ∷ S) i room c ≡ ended stuck c
  unfolding run step on_symbol on_token
  run-other e f a = rw (e, f, a)

  -- a nonterminal is called
  pub run-calls : {a : ℕ} → facing g p ≡ Nonterminal a → run g w choose (suc k) (p ∷ S) i room c ≡ run_call g w choose k (suc p ∷ S) a i room c
  unfolding run step on_symbol run_call
  run-calls e = rw e

-- nonterminal a waits over the stack S
module _ {C : Type 0} (g : Grammar) (w : List ℕ) (choose : Chooser C) (k : ℕ) (S : List ℕ) (a i : ℕ) (c : C) where
  pub call-full : (room : ℕ) → room ≡ 0 → run_call g w choose k S a i room c ≡ ended full c
  unfolding run_call on_call
  call-full room z = rw z

  pub call-unserved : (room : ℕ) {r : ℕ} → room ≡ suc r → names choose c S a i ≡ none → run_call g w choose k S a i room c
      ≡ ended stuck (thence choose c S a i)
  unfolding run_call on_call on_choice
  call-unserved room z d = rw (z, d)

  pub call-pick : (room : ℕ) {b f r : ℕ} → room ≡ suc r → names choose c S a i ≡ some b → first g a b ≡ some f
      → run_call g w choose k S a i room c ≡ prefixed b (run g w choose k (f ∷ S) i r (thence choose c S a i))
  unfolding run_call on_call on_choice
  call-pick room z d q = rw (z, d, q)

pub run-nothing : {C : Type 0} (g : Grammar) (w : List ℕ) (choose : Chooser C) (k i room : ℕ) (c : C) → i ≡ length w
    → run g w choose (suc k) [] i room c ≡ ended (accepted []) c
unfolding run step
run-nothing g w choose k i room c e = rw (eq-eqb i (length w) e)

pub run-left : {C : Type 0} (g : Grammar) (w : List ℕ) (choose : Chooser C) (k i room : ℕ) (c : C) → (i ≡ length w → ⊥)
    → run g w choose (suc k) [] i room c ≡ ended stuck c
unfolding run step
run-left g w choose k i room c n = rw (ne_eqb i (length w) n)
