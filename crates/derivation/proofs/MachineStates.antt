-- A chooser whose states only grow, and which says the same again over any later state: so does a whole run of the machine.
use mathlib.Core.Path.{◌≡◌, refl, ap, ◌∙◌}
use mathlib.Core.List.{List, [], ◌∷◌}
use Prim.Native.Nat.{ℕ, zero, suc, pred}
use Rattle.grammar.specs.declared.Symbol.{Symbol}
use Rattle.grammar.specs.declared.Symbol.TheVariants.{Token, Nonterminal, End}
use Rattle.grammar.specs.Grammar.{Grammar, facing}
use Rattle.derivation.specs.Machine.{Chooser, Action, halt, move, pick, moved, ended, chosen, on_call, on_symbol, step, prefixed, follow_step, follow}
use Rattle.derivation.specs.Machine.{run, run_call}
use Rattle.derivation.specs.inside.Choosers.{thence, Later, Repeats}
use Rattle.derivation.proofs.MachineLaws.{call-state, step-state}

module _ {C : Type 0} (Holds : C → Type 0) (Grown : C → C → Type 0) (g : Grammar) (w : List ℕ) (choose : Chooser C)
    (repeats : Repeats Holds choose Grown) where
  -- ---- states only grow
  abbrev Onward : C → C → Type 0
  Onward c d = Later Holds Grown c d

  still : (c : C) → Holds c → Onward c c
  still c h = record { holds = h; grown = repeats.same c }

  later : (c d e : C) → Onward c d → Onward d e → Onward c e
  later c d e x y = record { holds = y.holds; grown = repeats.joined c d e x.grown y.grown }

  -- what the chooser leaves
  left : (c : C) → Holds c → (S : List ℕ) (a i : ℕ) → Onward c (thence choose c S a i)
  left c h S a i = record { holds = repeats.keeps c S a i h; grown = repeats.grows c S a i h }

  call-grows : (c : C) (S : List ℕ) (a i room : ℕ) → Holds c → Onward c (on_call g choose c S a i room).state
  call-grows c S a i room h = call-state g choose (Onward c) c (still c h) (left c h) S a i room

  step-grows : (c : C) (S : List ℕ) (i room : ℕ) → Holds c → Onward c (step g w choose c S i room).state
  step-grows c S i room h = step-state g w choose (Onward c) c (still c h) (left c h) S i room

  abbrev Growing : ℕ → Type 0
  Growing k = (S : List ℕ) (i room : ℕ) (c : C) → Holds c → Onward c (run g w choose k S i room c).state

  follow-grows : (k : ℕ) → Growing k → (i room : ℕ) (x : Action) (c : C) → Holds c → Onward c (follow_step (run g w choose k) i room x c).state
  follow-grows k rec i room (halt o) c h = still c h
  follow-grows k rec i room (move S i') c h = rec S i' room c h
  follow-grows k rec i room (pick b S) c h = rec S i (pred room) c h

  pub run-grows : (k : ℕ) → Growing k
  unfolding run
  run-grows zero S i room c h = still c h
  run-grows (suc k) S i room c h =
      let m = step g w choose c S i room in
      let x = step-grows c S i room h in
      later c m.state _ x (follow-grows k (run-grows k) i room m.step m.state x.holds)

  pub call-run-grows : (k : ℕ) (S : List ℕ) (a i room : ℕ) (c : C) → Holds c → Onward c (run_call g w choose k S a i room c).state
  unfolding run_call
  call-run-grows k S a i room c h =
      let m = on_call g choose c S a i room in
      let x = call-grows c S a i room h in
      later c m.state _ x (follow-grows k (run-grows k) i room m.step m.state x.holds)

  -- ---- again
  call-again : (c d : C) (S : List ℕ) (a i room : ℕ) → Holds c → Holds d → Grown (on_call g choose c S a i room).state d
      → on_call g choose d S a i room ≡ moved (on_call g choose c S a i room).step d
  unfolding on_call
  call-again c d S a i zero h j x = refl
  call-again c d S a i (suc room) h j x = ap (chosen g S a) (repeats.again c d S a i h j x)

  symbol-again : (c d : C) (p : ℕ) (S : List ℕ) (i room : ℕ) (s : Symbol) → Holds c → Holds d
      → Grown (on_symbol g w choose c p S i room s).state d
      → on_symbol g w choose d p S i room s ≡ moved (on_symbol g w choose c p S i room s).step d
  unfolding on_symbol
  symbol-again c d p S i room (Token k) h j x = refl
  symbol-again c d p S i room (Nonterminal a) h j x = call-again c d (suc p ∷ S) a i room h j x
  symbol-again c d p S i room End h j x = refl

  step-again : (c d : C) (S : List ℕ) (i room : ℕ) → Holds c → Holds d → Grown (step g w choose c S i room).state d
      → step g w choose d S i room ≡ moved (step g w choose c S i room).step d
  unfolding step
  step-again c d [] i room h j x = refl
  step-again c d (p ∷ S) i room h j x = symbol-again c d p S i room (facing g p) h j x

  abbrev Again : ℕ → Type 0
  Again k = (S : List ℕ) (i room : ℕ) (c d : C) → Holds c → Holds d → Grown (run g w choose k S i room c).state d
      → run g w choose k S i room d ≡ ended (run g w choose k S i room c).outcome d

  follow-again : (k : ℕ) → Again k → (i room : ℕ) (x : Action) (c d : C) → Holds c → Holds d
      → Grown (follow_step (run g w choose k) i room x c).state d
      → follow_step (run g w choose k) i room x d ≡ ended (follow_step (run g w choose k) i room x c).outcome d
  follow-again k rec i room (halt o) c d h j e = refl
  follow-again k rec i room (move S i') c d h j e = rec S i' room c d h j e
  follow-again k rec i room (pick b S) c d h j e = ap (prefixed b) (rec S i (pred room) c d h j e)

  pub run-again : (k : ℕ) → Again k
  unfolding run
  run-again zero S i room c d h j e = refl
  run-again (suc k) S i room c d h j e =
      let m = step g w choose c S i room in
      let x = step-grows c S i room h in
      let y = follow-grows k (run-grows k) i room m.step m.state x.holds in
      let z = step-again c d S i room h j (repeats.joined _ _ _ y.grown e) in
      ap (follow (run g w choose k) i room) z ∙ follow-again k (run-again k) i room m.step m.state d x.holds j e

  pub call-run-again : (k : ℕ) (S : List ℕ) (a i room : ℕ) (c d : C) → Holds c → Holds d → Grown (run_call g w choose k S a i room c).state d
      → run_call g w choose k S a i room d ≡ ended (run_call g w choose k S a i room c).outcome d
  unfolding run_call
  call-run-again k S a i room c d h j e =
      let m = on_call g choose c S a i room in
      let x = call-grows c S a i room h in
      let y = follow-grows k (run-grows k) i room m.step m.state x.holds in
      let z = call-again c d S a i room h j (repeats.joined _ _ _ y.grown e) in
      ap (follow (run g w choose k) i room) z ∙ follow-again k (run-again k) i room m.step m.state d x.holds j e
