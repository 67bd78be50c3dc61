-- Two machines whose choosers name the same alternative wherever they are asked and some alternative serves: on an open stack they make the same steps
-- and end alike, whatever states they carry.
use mathlib.Core.Path.{◌≡◌, refl, ap, ◌∙◌}
use mathlib.Core.List.{List, [], ◌∷◌}
use Prim.Native.Nat.{ℕ, zero, suc}
use Rattle.grammar.specs.declared.Symbol.{Symbol}
use Rattle.grammar.specs.declared.Symbol.TheVariants.{Token, Nonterminal, End}
use Rattle.grammar.specs.Grammar.{Grammar, facing}
use Rattle.derivation.specs.Runs.{Opens}
use Rattle.derivation.specs.Machine.{Chooser, prefix, Action, on_choice, on_call, on_symbol, step, follow_step, run, run_call}
use Rattle.derivation.specs.inside.Choosers.{names, Served, Ground, KeepsKind, Reliable, Alike}
use Rattle.derivation.proofs.RunLaws.{run_end, run-token}
use Rattle.derivation.proofs.MachineLaws.{Called, no_room, unnamed, absent, taken, call-seen, call-state, step-state}
use Rattle.derivation.proofs.MachineLaws.{Seen, ended, halted, crammed, popped, matched, picked, see}
use Rattle.derivation.proofs.MachineLive.{call-served, right-serves, serves-at}

module _ {C D : Type 0} (HoldsC : C → Type 0) (HoldsD : D → Type 0) (g : Grammar) (w : List ℕ) (Stands : List ℕ → ℕ → Type 0)
    (Waits : List ℕ → ℕ → ℕ → Type 0) (ground : Ground g Stands Waits) (one : Chooser C) (other : Chooser D) (keeps : KeepsKind HoldsC one)
    (right : Reliable HoldsD other g w Waits) (alike : Alike HoldsC HoldsD one other g w Waits) where
  -- ---- single steps
  call-alike : (c : C) (d : D) (S : List ℕ) (a i room : ℕ) → HoldsC c → HoldsD d → Waits S a i → Served g w S a i
      → (on_call g one c S a i room).step ≡ (on_call g other d S a i room).step
  unfolding on_call
  call-alike c d S a i zero h j y v = refl
  call-alike c d S a i (suc room) h j y v = ap (on_choice g S a) (alike c d S a i h j y v)

  symbol-alike : (c : C) (d : D) (p : ℕ) (S : List ℕ) (i room : ℕ) (s : Symbol) → facing g p ≡ s → HoldsC c → HoldsD d → Stands (p ∷ S) i
      → Opens g w (p ∷ S) i → (on_symbol g w one c p S i room s).step ≡ (on_symbol g w other d p S i room s).step
  unfolding on_symbol
  symbol-alike c d p S i room (Token k) e h j y o = refl
  symbol-alike c d p S i room (Nonterminal a) e h j y o = call-alike c d (suc p ∷ S) a i room h j (ground.calls p a i S e y) (call-served o.1 e)
  symbol-alike c d p S i room End e h j y o = refl

  step-alike : (c : C) (d : D) (S : List ℕ) (i room : ℕ) → HoldsC c → HoldsD d → Stands S i → Opens g w S i
      → (step g w one c S i room).step ≡ (step g w other d S i room).step
  unfolding step
  step-alike c d [] i room h j y o = refl
  step-alike c d (p ∷ S) i room h j y o = symbol-alike c d p S i room (facing g p) refl h j y o

  -- ---- the same end
  abbrev Same : ℕ → Type 0
  Same k = (S : List ℕ) (i room : ℕ) (c : C) (d : D) → HoldsC c → HoldsD d → Stands S i → Opens g w S i
      → (run g w one k S i room c).outcome ≡ (run g w other k S i room d).outcome

  follow-same : (k : ℕ) → Same k → (S : List ℕ) (i room : ℕ) (c : C) (d d' : D) (x : Action) → Seen g w (names other d) S i room x
      → HoldsC c → HoldsD d → HoldsD d' → Stands S i → Opens g w S i
      → (follow_step (run g w one k) i room x c).outcome ≡ (follow_step (run g w other k) i room x d').outcome
  follow-same k rec S i room c d d' x (ended e) h j j' y o = refl
  follow-same k rec S i room c d d' x (halted n) h j j' y o = refl
  follow-same k rec S i room c d d' x (crammed e) h j j' y o = refl
  follow-same k rec S i room c d d' x (popped {p = p} {i = i₀} {room = room₀} {S = S'} e) h j j' y o =
      rec S' i₀ room₀ c d' h j' (ground.pops p i₀ S' e y) (o.0, run_end o.1 e)
  follow-same k rec S i room c d d' x (matched {p = p} {k = k'} {i = i₀} {room = room₀} {S = S'} e f t) h j j' y o =
      let (u, _, _, z) = run-token o.1 e in
      rec (suc p ∷ S') (suc i₀) room₀ c d' h j' (ground.matches p k' i₀ S' e y) (o.0, z)
  follow-same k rec S i room c d d' x (picked {p = p} {a = a} {b = b} {f = f} {i = i₀} {room = room₀} {S = S'} e n q) h j j' y o =
      let waits = ground.calls p a i₀ S' e y in
      ap (prefix b)
      (rec (f ∷ suc p ∷ S') i₀ room₀ c d' h j' (ground.takes a b f i₀ (suc p ∷ S') q waits)
      (serves-at a b (right-serves right j waits (call-served o.1 e) n) q))

  pub run-same : (k : ℕ) → Same k
  unfolding run
  run-same zero S i room c d h j y o = refl
  run-same (suc k) S i room c d h j y o =
      let m = step g w one c S i room in
      let n = step g w other d S i room in
      let kept = step-state g w one HoldsC c h (λ S a i. keeps c S a i h) S i room in
      let kept' = step-state g w other HoldsD d j (λ S a i. right.keeps d S a i j) S i room in
      ap (λ (x : Action). (follow_step (run g w one k) i room x m.state).outcome) (step-alike c d S i room h j y o)
      ∙ follow-same k (run-same k) S i room m.state d n.state n.step (see g w other d S i room) kept j kept' y o

  first-same : (k : ℕ) (S : List ℕ) (a i room : ℕ) (c : C) (d d' : D) (x : Action) → Called g (names other d) S a i room x
      → HoldsC c → HoldsD d → HoldsD d' → Waits S a i → Served g w S a i
      → (follow_step (run g w one k) i room x c).outcome ≡ (follow_step (run g w other k) i room x d').outcome
  first-same k S a i room c d d' x no_room h j j' y v = refl
  first-same k S a i room c d d' x (unnamed e) h j j' y v = refl
  first-same k S a i room c d d' x (absent e f) h j j' y v = refl
  first-same k S a i room c d d' x (taken {b = b} {f = f} {room = room₀} e q) h j j' y v =
      ap (prefix b) (run-same k (f ∷ S) i room₀ c d' h j' (ground.takes a b f i S q y) (serves-at a b (right-serves right j y v e) q))

  -- the same where nonterminal a waits over the stack, and some alternative of it serves
  pub call_same : (k : ℕ) (S : List ℕ) (a i room : ℕ) (c : C) (d : D) → HoldsC c → HoldsD d → Waits S a i → Served g w S a i
      → (run_call g w one k S a i room c).outcome ≡ (run_call g w other k S a i room d).outcome
  unfolding run_call
  call_same k S a i room c d h j y v =
      let m = on_call g one c S a i room in
      let n = on_call g other d S a i room in
      let kept = call-state g one HoldsC c h (λ S a i. keeps c S a i h) S a i room in
      let kept' = call-state g other HoldsD d j (λ S a i. right.keeps d S a i j) S a i room in
      ap (λ (x : Action). (follow_step (run g w one k) i room x m.state).outcome) (call-alike c d S a i room h j y v)
      ∙ first-same k S a i room m.state d n.state n.step (call-seen g other d S a i room) kept j kept' y v
