-- The loop of a reading, turn by turn, under any chooser: it begins as the whole reading, keeps what is left from call to call, and stops as the whole
-- reading does.
use mathlib.Core.Path.{◌≡◌, refl, sym, ap, ◌∙◌}
use mathlib.Core.Option.{none, some}
use mathlib.Core.List.{List, [], ◌∷◌}
use Prim.Native.Nat.{ℕ, suc, ◌+◌, ◌-◌, ◌*◌}
use native.Mathlib.Numerals.{add-one}
use native.Mathlib.Omega.{arith}
use lib.ListN.{length, get_or, take, set, length-set}
use Rattle.base.proofs.Lists.{get-below}
use Rattle.grammar.specs.Limits.{end_place}
use Rattle.grammar.specs.declared.Symbol.TheVariants.{End}
use Rattle.grammar.specs.Grammar.{Grammar, facing, first}
use Rattle.grammar.specs.inside.Tables.{grammar_in}
use Rattle.derivation.specs.Runs.{marked}
use Rattle.derivation.specs.Machine.{Chooser, Conclusion, accepted, stuck, full, after, Ended, ended, beyond, prefixed, run, run_call, reading}
use Rattle.derivation.specs.inside.Choosers.{names, thence}
use Rattle.derivation.specs.inside.Frames.{frame_words, returns_of}
use Rattle.derivation.proofs.MachineSteps.{after-accepted, after-stuck, after-full, beyond-entry, run_end, run-match, run_none, run-other, run-calls}
use Rattle.derivation.proofs.MachineSteps.{call-full, call-unserved, call-pick, run-nothing, run-left}
use Rattle.machine.specs.inside.Space.{ground, opened}
use Rattle.machine.specs.inside.Moves.{MovesOn, stay, popped, matched, Dead, over, other, early, ToCall, ToStop, ToEnd, Advanced, Entered}
use Rattle.machine.specs.inside.Going.{call_steps, Going}
use Rattle.machine.specs.declared.steps.At.{At}
use Rattle.machine.specs.declared.steps.Turn.{Turn}
use Rattle.machine.specs.declared.steps.Turn.TheVariants.{Calls, Stuck, Ended as Over}

-- ---- outcomes behind the alternatives that the row holds
module _ {C : Type 0} (l : List ℕ) (c : C) where
  beyond-stuck : beyond l (ended stuck c) ≡ ended stuck c
  beyond-stuck = ap (λ (o : Conclusion). ended o c) (after-stuck l)

  beyond-full : beyond l (ended full c) ≡ ended full c
  beyond-full = ap (λ (o : Conclusion). ended o c) (after-full l)

  beyond-accepted : beyond l (ended (accepted []) c) ≡ ended (accepted l) c
  beyond-accepted = ap (λ (o : Conclusion). ended o c) (after-accepted l)

-- ---- moves that need no choice are steps of the machine, one each
module _ {C : Type 0} (g : Grammar) (w : List ℕ) (choose : Chooser C) (ws : List ℕ) (base room : ℕ) (c : C) where
  -- from place p over d frames at position i, with steps that are enough
  abbrev run_from : ℕ → ℕ → ℕ → Ended C
  run_from p d i = run g w choose (suc (call_steps w room (p ∷ returns_of ws base d) i)) (p ∷ returns_of ws base d) i room c

  pub moves-run : {p₀ d₀ i₀ p d i : ℕ} → MovesOn g w ws base p₀ d₀ i₀ p d i → run_from p₀ d₀ i₀ ≡ run_from p d i
  unfolding returns_of
  moves-run stay = refl
  moves-run (popped {p = p} {d = d} {i = i} x e) =
      let S : List ℕ = get_or ws (base + frame_words * d) 0 ∷ returns_of ws base d in
      let z : call_steps w room (p ∷ S) i ≡ suc (call_steps w room S i) = omega arith in
      moves-run x ∙ (run_end g w choose (call_steps w room (p ∷ S) i) p S i room c e ∙ ap (λ (k : ℕ). run g w choose k S i room c) z)
  moves-run (matched {p = p} {d = d} {i = i} x e f a) =
      let S : List ℕ = returns_of ws base d in
      let l = get-below w i f in
      let z : call_steps w room (p ∷ S) i ≡ suc (call_steps w room (suc p ∷ S) (suc i)) = omega arith in
      moves-run x
      ∙ (run-match g w choose (call_steps w room (p ∷ S) i) p S i room c e f a ∙ ap (λ (k : ℕ). run g w choose k (suc p ∷ S) (suc i) room c) z)

  dead-run : {p d i : ℕ} → Dead g w p d i → run_from p d i ≡ ended stuck c
  unfolding returns_of
  dead-run {p} {d} {i} (over e f) = run_none g w choose (call_steps w room (p ∷ returns_of ws base d) i) p (returns_of ws base d) i room c e f
  dead-run {p} {d} {i} (other e f a) = run-other g w choose (call_steps w room (p ∷ returns_of ws base d) i) p (returns_of ws base d) i room c e f a
  dead-run {p} {d} {i} (early e z n) = rw z (left e n)
    where
      left : facing g p ≡ End → ¬ (i ≡ length w) → run_from p 0 i ≡ ended stuck c
      left e n =
          let y : call_steps w room (p ∷ []) i ≡ suc (2 * room + (length w - i)) = omega arith in
          run_end g w choose (call_steps w room (p ∷ []) i) p [] i room c e
          ∙ (ap (λ (k : ℕ). run g w choose k [] i room c) y ∙ run-left g w choose (2 * room + (length w - i)) i room c n)

  -- where the moves lead to
  module _ {p₀ d₀ i₀ : ℕ} where
    to-call : {q d i a : ℕ} → ToCall g w ws base p₀ d₀ i₀ q d i a
        → run_from p₀ d₀ i₀ ≡ run_call g w choose (call_steps w room (q ∷ returns_of ws base d) i) (q ∷ returns_of ws base d) a i room c
    to-call {q} {d} {i} {a} to =
        let S : List ℕ = returns_of ws base d in
        moves-run to.moves
        ∙ (run-calls g w choose (call_steps w room (to.place ∷ S) i) to.place S i room c to.faces
        ∙ ap (λ (q : ℕ). run_call g w choose (call_steps w room (q ∷ S) i) (q ∷ S) a i room c) (sym to.behind))

    to-stop : ToStop g w ws base p₀ d₀ i₀ → run_from p₀ d₀ i₀ ≡ ended stuck c
    to-stop to = moves-run to.moves ∙ dead-run to.dead

    to_end : ToEnd g w ws base p₀ d₀ i₀ → run_from p₀ d₀ i₀ ≡ ended (accepted []) c
    unfolding returns_of
    to_end to =
        let p = to.place in
        let i = to.position in
        let z : call_steps w room (p ∷ []) i ≡ suc (2 * room + (length w - i)) = omega arith in
        moves-run to.moves
        ∙ (run_end g w choose (call_steps w room (p ∷ []) i) p [] i room c to.faces
        ∙ (ap (λ (k : ℕ). run g w choose k [] i room c) z ∙ run-nothing g w choose (2 * room + (length w - i)) i room c to.read))

module _ {C : Type 0} (choose : Chooser C) (t w : List ℕ) where
  -- ---- a reading begins
  pub going-begins : (row : List ℕ) (c : C) → Going choose t w (reading (grammar_in t) (marked w) choose (length row) c) row 0 (end_place ∷ []) 0 0 c
  unfolding reading after
  going-begins row c =
      let z : call_steps (marked w) (length row - 0) (end_place ∷ []) 0 ≡ suc (2 * length row + length (marked w)) = omega arith in
      let y : length row - 0 ≡ length row = omega arith in
      record {
        fits = omega arith;
        rest = ap (λ (k : ℕ). run_call (grammar_in t) (marked w) choose k (end_place ∷ []) 0 0 (length row - 0) c) z
            ∙ ap (λ (r : ℕ). run_call (grammar_in t) (marked w) choose (suc (2 * length row + length (marked w))) (end_place ∷ []) 0 0 r c) y;
      }

  module _ {end : Ended C} {row : List ℕ} {count : ℕ} {S : List ℕ} {a i : ℕ} {c : C} (x : Going choose t w end row count S a i c) where
    -- ---- it stops where the row is full, or where the chooser names nothing
    pub going-full : count ≡ length row → ended full c ≡ end
    going-full e =
        sym (beyond-full (take count row) c)
        ∙ (ap (beyond (take count row)) (sym (call-full (grammar_in t) (marked w) choose _ S a i c (length row - count) (omega arith))) ∙ x.rest)

    module _ (n : count ≡ length row → ⊥) where
      left : length row - count ≡ suc (length row - suc count)
      left = omega (arith, x.fits)

      pub going-none : names choose c S a i ≡ none → ended stuck (thence choose c S a i) ≡ end
      going-none e =
          sym (beyond-stuck (take count row) (thence choose c S a i))
          ∙ (ap (beyond (take count row)) (sym (call-unserved (grammar_in t) (marked w) choose _ S a i c (length row - count) left e)) ∙ x.rest)

      -- ---- alternative b is taken: it becomes the next entry of the row, and from its first place f the machine goes on
      module _ {b f : ℕ} (named : names choose c S a i ≡ some b) (e : first (grammar_in t) a b ≡ some f) where
        -- what follows from there, behind the longer row, is the end
        taken : {o : Ended C} → run (grammar_in t) (marked w) choose (suc (call_steps (marked w) (length row - suc count) (f ∷ S) i)) (f ∷ S) i
            (length row - suc count) (thence choose c S a i) ≡ o → beyond (take (suc count) (set row count b)) o ≡ end
        taken {o} h =
            let r : ℕ = length row - suc count in
            let k : ℕ = call_steps (marked w) (length row - count) S i in
            let z : k ≡ suc (call_steps (marked w) r (f ∷ S) i) = omega (arith, left) in
            beyond-entry row count b o (omega (arith, x.fits))
            ∙ (ap (λ (o : Ended C). beyond (take count row) (prefixed b o)) (sym h)
            ∙ (ap (λ (k : ℕ). beyond (take count row) (prefixed b (run (grammar_in t) (marked w) choose k (f ∷ S) i r (thence choose c S a i)))) (sym z)
            ∙ (ap (beyond (take count row)) (sym (call-pick (grammar_in t) (marked w) choose k S a i c (length row - count) left named e)) ∙ x.rest)))

    -- ---- the same as the code has it: v is b in the row, vs is the working space with the frame for it, r is what the machine came to
    module _ (n : count ≡ length row → ⊥) {b : ℕ} (named : names choose c S a i ≡ some b) {v : ℕ} (stored : v ≡ b) {vs : List ℕ} {d base : ℕ}
        (frames : returns_of vs (ground t w) (suc d) ≡ S) (bottom : base ≡ ground t w) {r : Turn} (to : Entered t w vs base a b (suc d) i r) where
      abbrev c' : C
      c' = thence choose c S a i

      -- how the machine goes on over the frames
      follows : {o : Ended C} → run (grammar_in t) (marked w) choose (suc (call_steps (marked w) (length row - suc count)
          (to.start ∷ returns_of vs (ground t w) (suc d)) i)) (to.start ∷ returns_of vs (ground t w) (suc d)) i (length row - suc count) c' ≡ o
          → beyond (take (count + 1) (set row count v)) o ≡ end
      follows h = rw (stored, add-one count) (taken n named to.begins (rw frames at h))

      came : Advanced (grammar_in t) (marked w) vs (ground t w) to.start (suc d) i r
      came = rw bottom at to.advanced

      pub turn-calls : {at : At} {a' : ℕ} → r ≡ Calls at a'
          → Going choose t w end (set row count v) (count + 1) (opened t w vs at.depth at.place) a' at.position c'
      turn-calls {at} {a'} q =
          let m : length (set row count v) - (count + 1) ≡ length row - suc count = rw (length-set, add-one count) refl in
          record {
            fits = rw (length-set, add-one count) (omega (arith, x.fits));
            rest = rw m (follows (to-call (grammar_in t) (marked w) choose vs (ground t w) (length row - suc count) c' (rw q at came)));
          }

      pub turn-stuck : r ≡ Stuck → ended stuck c' ≡ end
      turn-stuck q =
          sym (beyond-stuck (take (count + 1) (set row count v)) c')
          ∙ follows (to-stop (grammar_in t) (marked w) choose vs (ground t w) (length row - suc count) c' (rw q at came))

      pub turn-ended : r ≡ Over → ended (accepted (take (count + 1) (set row count v))) c' ≡ end
      turn-ended q =
          sym (beyond-accepted (take (count + 1) (set row count v)) c')
          ∙ follows (to_end (grammar_in t) (marked w) choose vs (ground t w) (length row - suc count) c' (rw q at came))
