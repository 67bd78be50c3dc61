-- The plain reading as a whole: the gate refuses as the definition does, and behind it the note as a whole, or the machine's outcome, is the answer.
use mathlib.Core.Path.{◌≡◌, refl, sym, ap, ◌∙◌}
use mathlib.Core.Bool.{Bool, true, false}
use mathlib.Core.List.{List, [], ◌∷◌, ◌++◌}
use Prim.Native.Nat.{ℕ, ◌-◌, ◌<◌}
use native.Mathlib.Omega.{arith}
use lib.ListN.{length, take, replicate}
use borrow.Author.Tests.{ne_eqb, eq-eqb}
use Rattle.std.specs.Prelude.{Ok, Err}
use Rattle.base.proofs.Booleans.{true→T, false→¬T}
use Rattle.grammar.specs.Limits.{end_place}
use Rattle.grammar.specs.inside.Tables.{grammar_in}
use Rattle.derivation.specs.Runs.{marked, Serves}
use Rattle.derivation.specs.Machine as machine
use Rattle.derivation.specs.Plain.{Answer, refuse, sentence?, on_conclusion, read_note, plain_reading}
use Rattle.derivation.specs.ReachRounds.{wrong_place}
use Rattle.derivation.specs.inside.Ready.{Ready}
use Rattle.derivation.proofs.ReadyLaws.{ready-ordered}
use Rattle.derivation.proofs.ReadingLaws.{sentence-serves, reading-sound}
use Rattle.derivation.proofs.SentenceTest.{sentence-iff}
use Rattle.gate.specs.Reading.{answered}
use Rattle.gate.specs.inside.Passing.{Gate, Admitted, Gated}
use Rattle.gate.specs.declared.reading.ReadingRefusal.{ReadingRefusal}
use Rattle.gate.specs.declared.reading.ReadingRefusal.TheVariants.{NoSentence, ShortRow}
use Rattle.gate.proofs.PassingLaws.{at-shut, at-passed}
use Rattle.first_follow.specs.inside.Words.{mask_words}
use Rattle.cells.specs.inside.Chart.{Charted}
use Rattle.cells.proofs.Spots.{lent-kept}
use Rattle.reach.specs.inside.Passes.{Given}
use Rattle.machine.specs.inside.Ending.{outcome_in}
use Rattle.machine.proofs.EndingLaws.{outcome-length, end-clear, end-stuck, end_short, end-wrong}
use Rattle.serving.specs.inside.Aids.{tally_of, budget_in, Stage, sets_of, Told}
use Rattle.serving.specs.inside.Serving.{CellsWanted, CellsRight}
use Rattle.serving.specs.inside.Judging.{MayJudge, Judges}
use Rattle.plain.specs.inside.Run.{MayRun, PlainRan, Stopped}
use Rattle.serving.specs.declared.judging.Judged.{Judged}
use Rattle.serving.specs.declared.judging.Judged.TheVariants.{Sentence, Wrong, Out}
use Rattle.serving.specs.declared.running.Stop.{Stop}

-- ---- the note as a whole
module _ (t : List ℕ) (h : Ready t) (w : List ℕ) where
  -- a sentence has an alternative of the start symbol that serves
  pub sentence-served : sentence? (grammar_in t) w ≡ true → (b : ℕ) × Serves (grammar_in t) (marked w) (end_place ∷ []) 0 0 b
  sentence-served e =
      let o = ready-ordered t h in
      sentence-serves (grammar_in t) o.marked_end o.end-past w
      ((sentence-iff (grammar_in t) o.marked_end o.end-past w).0 (true→T (sentence? (grammar_in t) w) e))

  -- what the machine accepts is a sentence, so a note that is none gets stuck, or is full: the answer is the same
  pub wrong-is : (row : List ℕ) {p : ℕ} {after : List ℕ} → sentence? (grammar_in t) w ≡ false → p ≡ wrong_place (grammar_in t) w
      → after ≡ take 0 row ++ replicate (length row - 0) 0 → answered (Err (NoSentence p)) after ≡ read_note (grammar_in t) w row
  unfolding read_note
  wrong-is row {p} {after} e z y = go outcome.outcome refl
    where
      outcome : machine.Ended (Unit {0})
      outcome = machine.reading (grammar_in t) (marked w) (machine.plainly (grammar_in t) (marked w)) (length row) tt

      go : (o : machine.Conclusion) → outcome.outcome ≡ o → answered (Err (NoSentence p)) after ≡ on_conclusion (grammar_in t) w row o
      go (machine.accepted d) q =
          let o = ready-ordered t h in
          let x = (reading-sound (grammar_in t) o.marked_end o.end-past w (machine.plainly (grammar_in t) (marked w)) (length row) tt d q).0 in
          absurd (false→¬T (sentence? (grammar_in t) w) e ((sentence-iff (grammar_in t) o.marked_end o.end-past w).1 (d, x)))
      go machine.stuck q = end-stuck (grammar_in t) w row (end-clear row (grammar_in t) w z y)
      go machine.full q = end-wrong (grammar_in t) w row (sym e) refl (end-clear row (grammar_in t) w z y)

-- ---- the machine behind it
module _ (t w : List ℕ) {ws : List ℕ} (h : Admitted t w (length ws)) where
  -- with nothing worked out, whatever a search may spend
  pub judging : {tally : List ℕ} {most : ℕ} → tally ≡ tally_of 0 most → MayJudge t w (replicate mask_words 0) tally ws 0
  judging e =
      record {
        told = record {
          ready = h.ready;
          tokens = h.tokens;
          lent = record { short = h.short; room = h.room };
          tallied = rw e (record { long = refl; few = omega arith });
        };
        stage = Stage.nothing (rw e refl) refl refl;
        far = rw e (λ n. absurd (omega arith));
      }

  module _ {ms tally ms' tally' after : List ℕ} {r : Judged} (x : Judges t w ms tally ws ms' tally' after r) where
    judged : Told t w tally' after
    judged =
        record {
          ready = h.ready;
          tokens = h.tokens;
          lent = lent-kept {ws = ws} x.long (record { short = h.short; room = h.room });
          tallied = x.tallied;
        }

    running : (1 < budget_in tally' → (b : ℕ) × Serves (grammar_in t) (marked w) (end_place ∷ []) 0 0 b) → MayRun t w ms' tally' after
    running serves = record { told = judged; begun = x.begun; stage = x.stage; serves = serves }

    pub judged-sentence : {p : ℕ} → r ≡ Sentence p → sentence? (grammar_in t) w ≡ true
    judged-sentence e = (rw e at x.answer).0

    pub run-sentence : {p : ℕ} → r ≡ Sentence p → MayRun t w ms' tally' after
    run-sentence e = running (λ _. sentence-served t h.ready w (judged-sentence e))

    pub run_out : r ≡ Out → MayRun t w ms' tally' after
    run_out e = let z : budget_in tally' ≡ 1 = rw e at x.answer in running (λ n. absurd (omega arith))

    pub judged-wrong : {p : ℕ} → r ≡ Wrong p → (row : List ℕ) {row' : List ℕ} → row' ≡ take 0 row ++ replicate (length row - 0) 0
        → answered (Err (NoSentence p)) row' ≡ read_note (grammar_in t) w row
    judged-wrong e row z = let (n, q) = rw e at x.answer in wrong-is t h.ready w row n q z

    -- the machine stopped
    pub stopped : {row row' ms'' tally'' ws' : List ℕ} {s : Stop} {b : Bool} → PlainRan t w row after s row' ms'' tally'' ws'
        → (b ≡ true → sentence? (grammar_in t) w ≡ true) → Stopped t w row' tally'' ws' s b
    stopped {ms'' = ms''} y sound =
        record {
          told = record {
            ready = h.ready;
            tokens = h.tokens;
            lent = lent-kept y.ran.space-kept judged.lent;
            tallied = y.tallied;
          };
          masks = ms'';
          stage = y.stage;
          within = y.ran.within;
          sound = sound;
        }

pub read_is : (t w row ws : List ℕ) {r : Stop} {row' ms tally' ws' : List ℕ} {x : Answer} → PlainRan t w row ws r row' ms tally' ws'
    → x ≡ on_conclusion (grammar_in t) w row' (outcome_in r.outcome row') → x ≡ read_note (grammar_in t) w row
unfolding read_note
read_is t w row ws {r} {row'} y e =
    e ∙ (outcome-length (grammar_in t) w row row' (outcome_in r.outcome row') y.ran.row_kept
    ∙ ap (λ (e : machine.Ended (Unit {0})). on_conclusion (grammar_in t) w row e.outcome) y.ran.stops)

-- ---- how it stopped, and the cells
module _ (t w row tally ws : List ℕ) {r : Stop} {b : Bool} (x : Stopped t w row tally ws r b) where
  -- where sets of frames stand, the cells do
  sets-charted : Stage t w x.masks tally ws r.known → 0 < sets_of tally r.known → Charted t w ws
  unfolding sets_of
  sets-charted (Stage.nothing z m k) n = absurd (omega (arith, rw (ne_eqb (budget_in tally) 1 (λ e. omega arith)) at n))
  sets-charted (Stage.search l f s m) n = absurd (omega (arith, rw (ne_eqb (budget_in tally) 1 (λ e. omega arith)) at n))
  sets-charted (Stage.table e c) n = c (rw (eq-eqb (budget_in tally) 1 e) at n)

  pub stopped-cells : {stand : ℕ} → stand ≡ sets_of tally r.known → CellsWanted t w ws stand
  stopped-cells e = record { ready = x.told.ready; lent = x.told.lent; charted = λ n. sets-charted x.stage (rw e at n) }

  -- the row has no room for a sentence
  pub stopped-short : b ≡ true → {after : List ℕ} → after ≡ take 0 row ++ replicate (length row - 0) 0
      → answered (Err ShortRow) after ≡ on_conclusion (grammar_in t) w row machine.full
  stopped-short e z = end_short (grammar_in t) w row (e ∙ sym (x.sound e)) e z

  pub stopped-given : {after : List ℕ} → CellsRight t w ws after → Given t w after
  stopped-given y = record { ready = x.told.ready; lent = lent-kept y.kept x.told.lent; charted = y.charted }

-- ---- the gate
module _ (s w row : List ℕ) (space : ℕ) {t : List ℕ} {g : Gate} (h : Gated s w space t g) where
  pub shut-is : {r : ReadingRefusal} → g ≡ Err r → answered (Err r) row ≡ plain_reading s w row space
  unfolding plain_reading
  shut-is e = at-shut h (λ n p. refuse n p row) (λ g. read_note g w row) e

  pub passed_is : g ≡ Ok tt → {x : Answer} → x ≡ read_note (grammar_in t) w row → x ≡ plain_reading s w row space
  unfolding plain_reading
  passed_is e q = q ∙ at-passed h (λ n p. refuse n p row) (λ g. read_note g w row) e
