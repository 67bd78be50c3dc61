-- A whole note read by a chooser that a predictor guides: from every coherent state it is answered as the plain reading answers it, states only grow, and
-- read again it adds nothing.
use mathlib.Core.Path.{◌≡◌, refl, sym, ap, ◌∙◌}
use mathlib.Core.Bool.{Bool, true, false}
use mathlib.Core.List.{List, [], ◌∷◌}
use Prim.Native.Nat.{ℕ, suc, ◌+◌, ◌*◌}
use lib.ListN.{length}
use Rattle.base.proofs.Booleans.{true→T, false→¬T}
use Rattle.grammar.specs.Limits.{end_place}
use Rattle.grammar.specs.Grammar.{Grammar, of_places}
use Rattle.grammar.specs.inside.Ordered.{Ordered}
use Rattle.derivation.specs.Runs.{marked}
use Rattle.derivation.specs.Machine.{plainly, Conclusion, accepted, stuck, full, Ended, ended, reading}
use Rattle.derivation.specs.inside.Choosers.{AnyState, Later, Repeats}
use Rattle.derivation.specs.Viable.{Sentence}
use Rattle.derivation.specs.ReachRounds.{wrong_place}
use Rattle.derivation.specs.Plain.{clear, sentence?, on_conclusion, read_note}
use Rattle.derivation.proofs.MachineStates.{call-run-grows, call-run-again}
use Rattle.derivation.proofs.LockStep.{call_same}
use Rattle.derivation.proofs.LowestLaws.{lowest-right}
use Rattle.derivation.proofs.ReadingLaws.{sentence-serves, reading-sound}
use Rattle.derivation.proofs.SentenceTest.{sentence-iff}
use Rattle.cache.specs.Predictor.{Predicts, Predictor}
use Rattle.cache.proofs.PredictorLaws.{Stands as Asks}
use Rattle.adaptive.specs.Chooser.{guided}
use Rattle.adaptive.proofs.ChoiceLaws.{guided-keeps, guided-repeats, guided-lowest}
use Rattle.adaptive.proofs.Standing.{Stands, Waits, standing, first-waits, waits-asks}

-- a note that is no sentence is refused with 10 by any reading that accepts sentences alone
no-sentence : (g : Grammar) → Ordered g → (v row : List ℕ) (o : Conclusion) → sentence? g v ≡ false
    → ((d : List ℕ) → o ≡ accepted d → Sentence (of_places g) v)
    → on_conclusion g v row o ≡ clear 10 (wrong_place g v) row
unfolding on_conclusion
no-sentence g ordered v row (accepted d) e h =
    absurd (false→¬T (sentence? g v) e ((sentence-iff g ordered.marked_end ordered.end-past v).1 (h d refl)))
no-sentence g ordered v row stuck e h = refl
no-sentence g ordered v row full e h = rw e

module _ {C : Type 0} (Coherent : C → Type 0) (Extends : C → C → Type 0) (g : Grammar) (ordered : Ordered g) (v : List ℕ) (predict : Predicts C)
    (predictor : Predictor Coherent Extends g (marked v) (Asks g (marked v)) predict) where
  -- the reading, with room for so many entries
  abbrev read : ℕ → C → Ended C
  read room c = reading g (marked v) (guided g (marked v) predict) room c

  -- a sentence is read as the plain reading reads it
  read_same : (room : ℕ) (c : C) → Sentence (of_places g) v → Coherent c
      → (read room c).outcome ≡ (reading g (marked v) (plainly g (marked v)) room tt).outcome
  unfolding reading
  read_same room c h j =
      call_same Coherent AnyState g (marked v) (Stands g) (Waits g) (standing g ordered) (guided g (marked v) predict) (plainly g (marked v))
      (guided-keeps Coherent Extends g (marked v) (Asks g (marked v)) predict predictor) (lowest-right g (marked v) (Waits g))
      (guided-lowest Coherent Extends g (marked v) (Asks g (marked v)) predict predictor (Waits g) (waits-asks g ordered (marked v)))
      (suc (2 * room + length (marked v))) (end_place ∷ []) 0 0 room c tt j tt (first-waits g ordered)
      (sentence-serves g ordered.marked_end ordered.end-past v h)

  -- THE SAME ANSWER
  pub note-answer : (row : List ℕ) (c : C) → Coherent c → on_conclusion g v row (read (length row) c).outcome ≡ read_note g v row
  unfolding read_note
  note-answer row c j = go (sentence? g v) refl
    where
      plain : Ended (Unit {0})
      plain = reading g (marked v) (plainly g (marked v)) (length row) tt

      go : (x : Bool) → sentence? g v ≡ x → on_conclusion g v row (read (length row) c).outcome ≡ on_conclusion g v row plain.outcome
      go true e =
          ap (on_conclusion g v row) (read_same (length row) c ((sentence-iff g ordered.marked_end ordered.end-past v).0 (true→T (sentence? g v) e)) j)
      go false e =
          no-sentence g ordered v row (read (length row) c).outcome e
          (λ d q. (d, (reading-sound g ordered.marked_end ordered.end-past v (guided g (marked v) predict) (length row) c d q).0))
          ∙ sym (no-sentence g ordered v row plain.outcome e
          (λ d q. (d, (reading-sound g ordered.marked_end ordered.end-past v (plainly g (marked v)) (length row) tt d q).0)))

  module _ (same : (c : C) → Extends c c) (joined : (c d e : C) → Extends c d → Extends d e → Extends c e) where
    repeats : Repeats Coherent (guided g (marked v) predict) Extends
    repeats = guided-repeats Coherent Extends g (marked v) (Asks g (marked v)) predict predictor same joined

    -- STATES ONLY GROW
    pub note-grows : (room : ℕ) (c : C) → Coherent c → Later Coherent Extends c (read room c).state
    unfolding reading
    note-grows room c j =
        call-run-grows Coherent Extends g (marked v) (guided g (marked v) predict) repeats (suc (2 * room + length (marked v))) (end_place ∷ []) 0 0 room c j

    -- READ AGAIN from a state that has only grown since, it leaves that state as found
    pub note-again : (room : ℕ) (c d : C) → Coherent c → Coherent d → Extends (read room c).state d → read room d
        ≡ ended (read room c).outcome d
    unfolding reading
    note-again room c d j i e =
        call-run-again Coherent Extends g (marked v) (guided g (marked v) predict) repeats (suc (2 * room + length (marked v))) (end_place ∷ []) 0 0 room c d
        j i e
