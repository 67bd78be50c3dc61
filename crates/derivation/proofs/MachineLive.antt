-- The machine under a chooser that is right: where a run exists enough steps do not end stuck.
use mathlib.Core.Path.{◌≡◌}
use mathlib.Core.Bool.{false}
use mathlib.Core.Option.{none, some}
use mathlib.Core.List.{List, ◌∷◌}
use Prim.Native.Nat.{ℕ, zero, suc, ◌+◌, ◌-◌, ◌*◌, ◌≤◌, ◌<◌}
use native.Mathlib.Omega.{arith}
use lib.Dec.{T, eqb, eqb_refl}
use lib.ListN.{length}
use Rattle.base.proofs.Booleans.{clash}
use Rattle.base.proofs.Lists.{get-below}
use Rattle.grammar.specs.declared.Symbol.TheVariants.{Nonterminal}
use Rattle.grammar.specs.Grammar.{Grammar, facing, admits, first}
use Rattle.derivation.specs.Runs.{Run, Opens}
use Rattle.derivation.specs.Machine.{Chooser, stuck, Action, on_call, step, follow_step, run, run_call}
use Rattle.derivation.specs.Runs.{Serves}
use Rattle.derivation.specs.inside.Choosers.{names, Served, Ground, Reliable}
use Rattle.derivation.proofs.RunLaws.{run-empty, run_end, run-token, run-over_call}
use Rattle.derivation.proofs.MachineLaws.{Called, no_room, unnamed, absent, taken, call-seen, prefix-stuck, call-state, step-state}
use Rattle.derivation.proofs.MachineLaws.{Halted, over, past, other, unchosen, missing, Seen, ended, halted, crammed, popped, matched, picked, see}

-- ---- alternatives that serve
pub serves-at : {g : Grammar} {w S : List ℕ} {i f : ℕ} (a b : ℕ) → Serves g w S a i b → first g a b ≡ some f → Opens g w (f ∷ S) i
serves-at {f = f} a b (f', e, x) d = let z : f' ≡ f = cc in rw z at x

-- a run of a nonterminal on top of the stack: one of its alternatives serves
pub call-served : {g : Grammar} {w : List ℕ} {p a i : ℕ} {S r : List ℕ} → Run g w (p ∷ S) i (length w) r → facing g p ≡ Nonterminal a
    → Served g w (suc p ∷ S) a i
call-served h e = let (b, s, f, q, x, _) = run-over_call h e in (b, (f, q, (s, x)))

module _ {C : Type 0} {Holds : C → Type 0} {g : Grammar} {w : List ℕ} {Waits : List ℕ → ℕ → ℕ → Type 0} {choose : Chooser C}
    (right : Reliable Holds choose g w Waits) {c : C} {S : List ℕ} {a i : ℕ} (holds : Holds c) (waits : Waits S a i) (served : Served g w S a i) where
  pub right-names : ¬ (names choose c S a i ≡ none)
  right-names e = let (d, q, _) = right.serves c S a i served.0 holds waits served.1 in clash (cc)

  pub right-serves : {b : ℕ} → names choose c S a i ≡ some b → Serves g w S a i b
  right-serves {b} e = let (d, q, y) = right.serves c S a i served.0 holds waits served.1 in let z : d ≡ b = cc in rw z at y

-- ---- live
module _ {C : Type 0} (Holds : C → Type 0) (g : Grammar) (w : List ℕ) (Stands : List ℕ → ℕ → Type 0) (Waits : List ℕ → ℕ → ℕ → Type 0)
    (ground : Ground g Stands Waits) (choose : Chooser C) (right : Reliable Holds choose g w Waits) where
  -- what halts stuck has no run
  halted-dead : {c : C} {S : List ℕ} {i : ℕ} → Holds c → Stands S i → Halted g w (names choose c) S i → ¬ Opens g w S i
  halted-dead h y (over {i = i} e) (r, x) = let q = run-empty x in let t : T (eqb i (length w)) = rw q (eqb_refl (length w)) in rw e at t
  halted-dead h y (past e d) (r, x) = let (t, q, a, _) = run-token x e in clash (cc)
  halted-dead h y (other {k = k} e d n) (r, x) = let (u, q, a, _) = run-token x e in let z : admits g k u ≡ false = cc in rw z at a
  halted-dead h y (unchosen {p = p} {i = i} {a = a} {S = S} e d) (r, x) = right-names right h (ground.calls p a i S e y) (call-served x e) d
  halted-dead h y (missing {p = p} {i = i} {a = a} {S = S} e d m) (r, x) =
      let (f, q, _) = right-serves right h (ground.calls p a i S e y) (call-served x e) d in clash (cc)

  -- enough steps: two for each alternative that there is room for, one for each token left and each place of the stack, and one more
  abbrev pub Live : ℕ → Type 0
  Live k = (S : List ℕ) (i room : ℕ) (c : C) → 2 * room + (length w - i) + length S < k → Holds c → Stands S i → Opens g w S i
      → ¬ ((run g w choose k S i room c).outcome ≡ stuck)

  live-step : (k : ℕ) → Live k → (S : List ℕ) (i room : ℕ) (c d : C) → 2 * room + (length w - i) + length S < suc k → Holds c → Holds d
      → Stands S i
      → Opens g w S i → (x : Action) → Seen g w (names choose c) S i room x → ¬ ((follow_step (run g w choose k) i room x d).outcome ≡ stuck)
  live-step k rec S i room c d l h h' y o x (ended e) q = clash (cc)
  live-step k rec S i room c d l h h' y o x (halted n) q = halted-dead h y n o
  live-step k rec S i room c d l h h' y o x (crammed e) q = clash (cc)
  live-step k rec S i room c d l h h' y o x (popped {p = p} {i = i₀} {room = room₀} {S = S'} e) q =
      rec S' i₀ room₀ d (omega arith) h' (ground.pops p i₀ S' e y) (o.0, run_end o.1 e) q
  live-step k rec S i room c d l h h' y o x (matched {p = p} {k = k'} {i = i₀} {room = room₀} {S = S'} e f t) q =
      let (u, _, _, z) = run-token o.1 e in
      let n = get-below w i₀ f in
      rec (suc p ∷ S') (suc i₀) room₀ d (omega arith) h' (ground.matches p k' i₀ S' e y) (o.0, z) q
  live-step k rec S i room c d l h h' y o x (picked {p = p} {a = a} {b = b} {f = f} {i = i₀} {room = room₀} {S = S'} e n m) q =
      let waits = ground.calls p a i₀ S' e y in
      rec (f ∷ suc p ∷ S') i₀ room₀ d (omega arith) h' (ground.takes a b f i₀ (suc p ∷ S') m waits)
      (serves-at a b (right-serves right h waits (call-served o.1 e) n) m)
      (prefix-stuck b (run g w choose k (f ∷ suc p ∷ S') i₀ room₀ d).outcome q)

  pub run-live : (k : ℕ) → Live k
  unfolding run
  run-live zero S i room c l h y o q = absurd (omega arith)
  run-live (suc k) S i room c l h y o q =
      let m = step g w choose c S i room in
      live-step k (run-live k) S i room c m.state l h (step-state g w choose Holds c h (λ S a i. right.keeps c S a i h) S i room) y o m.step
      (see g w choose c S i room) q

  live-call : (k : ℕ) (S : List ℕ) (a i room : ℕ) (c d : C) → 2 * room + (length w - i) + length S ≤ k → Holds c → Holds d → Waits S a i
      → Served g w S a i → (x : Action) → Called g (names choose c) S a i room x → ¬ ((follow_step (run g w choose k) i room x d).outcome ≡ stuck)
  live-call k S a i room c d l h h' y o x no_room q = clash (cc)
  live-call k S a i room c d l h h' y o x (unnamed e) q = right-names right h y o e
  live-call k S a i room c d l h h' y o x (absent e n) q = let (f, z, _) = right-serves right h y o e in clash (cc)
  live-call k S a i room c d l h h' y o x (taken {b = b} {f = f} {room = room₀} e n) q =
      run-live k (f ∷ S) i room₀ d (omega arith) h' (ground.takes a b f i S n y) (serves-at a b (right-serves right h y o e) n)
      (prefix-stuck b (run g w choose k (f ∷ S) i room₀ d).outcome q)

  -- the same where nonterminal a waits over the stack, and some alternative of it serves
  pub call-live : (k : ℕ) (S : List ℕ) (a i room : ℕ) (c : C) → 2 * room + (length w - i) + length S ≤ k → Holds c → Waits S a i
      → Served g w S a i
      → ¬ ((run_call g w choose k S a i room c).outcome ≡ stuck)
  unfolding run_call
  call-live k S a i room c l h y o q =
      let m = on_call g choose c S a i room in
      live-call k S a i room c m.state l h (call-state g choose Holds c h (λ S a i. right.keeps c S a i h) S a i room) y o m.step
      (call-seen g choose c S a i room) q
