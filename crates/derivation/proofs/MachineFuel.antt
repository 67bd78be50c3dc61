-- How many steps of the machine are enough, under any chooser: more change nothing. And what was accepted in some steps is accepted in more.
use mathlib.Core.Path.{◌≡◌, refl, ap}
use mathlib.Core.List.{List, ◌∷◌}
use Prim.Native.Nat.{ℕ, zero, suc, pred, ◌+◌, ◌-◌, ◌*◌, ◌≤◌, ◌<◌}
use native.Mathlib.Omega.{arith}
use lib.ListN.{length}
use Rattle.base.proofs.Booleans.{clash}
use Rattle.base.proofs.Lists.{get-below}
use Rattle.grammar.specs.Grammar.{Grammar}
use Rattle.derivation.specs.Machine.{Chooser, accepted, Action, halt, move, pick, prefixed, follow_step, run, run_call, step, on_call}
use Rattle.derivation.specs.inside.Choosers.{names}
use Rattle.derivation.proofs.MachineLaws.{Names, prefix-accepted, Seen, ended}
use Rattle.derivation.proofs.MachineLaws.{halted, crammed, popped, matched, picked, see}

-- one for each open place, two for each alternative that there is room for, one for each token that is left
abbrev pub enough : List ℕ → List ℕ → ℕ → ℕ → ℕ
enough w S i room = length S + (2 * room + (length w - i))

module _ {C : Type 0} (g : Grammar) (w : List ℕ) (choose : Chooser C) where
  -- k steps are as good as any other number that is enough
  abbrev More : ℕ → Type 0
  More k = (l : ℕ) (S : List ℕ) (i room : ℕ) (c : C) → enough w S i room < k → enough w S i room < l
      → run g w choose k S i room c ≡ run g w choose l S i room c

  follow-more : (k l : ℕ) → More k → (named : Names) (S : List ℕ) (i room : ℕ) (c : C) (x : Action) → Seen g w named S i room x
      → enough w S i room ≤ k → enough w S i room ≤ l → follow_step (run g w choose k) i room x c ≡ follow_step (run g w choose l) i room x c
  follow-more k l rec named S i room c x (ended e) m n = refl
  follow-more k l rec named S i room c x (halted e) m n = refl
  follow-more k l rec named S i room c x (crammed e) m n = refl
  follow-more k l rec named S i room c x (popped {i = i₀} {room = room₀} {S = S'} e) m n = rec l S' i₀ room₀ c (omega arith) (omega arith)
  follow-more k l rec named S i room c x (matched {p = p} {i = i₀} {room = room₀} {S = S'} e f t) m n =
      let h = get-below w i₀ f in
      rec l (suc p ∷ S') (suc i₀) room₀ c (omega arith) (omega arith)
  follow-more k l rec named S i room c x (picked {p = p} {b = b} {f = f} {i = i₀} {room = room₀} {S = S'} e d y) m n =
      ap (prefixed b) (rec l (f ∷ suc p ∷ S') i₀ room₀ c (omega arith) (omega arith))

  -- MORE STEPS than enough change nothing
  pub run_more : (k : ℕ) → More k
  unfolding run
  run_more zero l S i room c m n = absurd (omega arith)
  run_more (suc k) zero S i room c m n = absurd (omega arith)
  run_more (suc k) (suc l) S i room c m n =
      let x = step g w choose c S i room in
      follow-more k l (run_more k) (names choose c) S i room x.state x.step (see g w choose c S i room) (omega arith) (omega arith)

  -- what was accepted in fewer steps is accepted alike in more
  abbrev Longer : ℕ → Type 0
  Longer k = (l : ℕ) (S : List ℕ) (i room : ℕ) (c : C) (r : List ℕ) → k ≤ l → (run g w choose k S i room c).outcome ≡ accepted r
      → run g w choose l S i room c ≡ run g w choose k S i room c

  follow-longer : (k l : ℕ) → Longer k → k ≤ l → (i room : ℕ) (c : C) (x : Action) (r : List ℕ)
      → (follow_step (run g w choose k) i room x c).outcome ≡ accepted r
      → follow_step (run g w choose l) i room x c ≡ follow_step (run g w choose k) i room x c
  follow-longer k l rec h i room c (halt o) r e = refl
  follow-longer k l rec h i room c (move S i') r e = rec l S i' room c r h e
  follow-longer k l rec h i room c (pick b S) r e =
      let (s, y, z) = prefix-accepted b (run g w choose k S i (pred room) c).outcome {r = r} e in
      ap (prefixed b) (rec l S i (pred room) c s h y)

  pub run-longer : (k : ℕ) → Longer k
  unfolding run
  run-longer zero l S i room c r h e = clash (cc)
  run-longer (suc k) zero S i room c r h e = absurd (omega arith)
  run-longer (suc k) (suc l) S i room c r h e =
      let x = step g w choose c S i room in
      follow-longer k l (run-longer k) (omega arith) i room x.state x.step r e

  pub call-longer : (k l : ℕ) (S : List ℕ) (a i room : ℕ) (c : C) (r : List ℕ) → k ≤ l → (run_call g w choose k S a i room c).outcome ≡ accepted r
      → run_call g w choose l S a i room c ≡ run_call g w choose k S a i room c
  unfolding run_call
  call-longer k l S a i room c r h e =
      let x = on_call g choose c S a i room in
      follow-longer k l (run-longer k) h i room x.state x.step r e
