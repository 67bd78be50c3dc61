-- The machine stopped before the note was accepted: what the note as a whole says then, by ends on demand or by the cells, is the answer.
use mathlib.Core.Path.{◌≡◌, refl, sym, ap, ◌∙◌}
use mathlib.Core.Bool.{Bool, true, false}
use mathlib.Core.List.{List, ◌++◌}
use Prim.Native.Nat.{ℕ, ◌-◌, ◌<◌}
use native.Mathlib.Omega.{arith}
use lib.ListN.{length, take, replicate}
use Rattle.std.specs.Prelude.{Err}
use Rattle.grammar.specs.Grammar.{Grammar}
use Rattle.grammar.specs.inside.Tables.{grammar_in}
use Rattle.derivation.specs.Machine as machine
use Rattle.derivation.specs.Plain.{Answer, clear, on_conclusion}
use Rattle.derivation.specs.ReachRounds.{wrong_place}
use Rattle.gate.specs.Reading.{answered}
use Rattle.gate.specs.declared.reading.ReadingRefusal.TheVariants.{NoSentence, ShortRow}
use Rattle.cells.proofs.Spots.{lent-kept}
use Rattle.reach.specs.inside.Passes.{Given}
use Rattle.machine.proofs.EndingLaws.{end-stuck, end_short, end-wrong}
use Rattle.serving.specs.inside.Aids.{sets_of}
use Rattle.serving.specs.inside.Serving.{CellsWanted, CellsRight}
use Rattle.serving.specs.inside.Judging.{MayJudge, JudgedAs, Judges}
use Rattle.quick.specs.inside.Run.{stop_of}
use Rattle.serving.specs.declared.judging.Judged.{Judged}
use Rattle.serving.specs.declared.judging.Judged.TheVariants.{Sentence, Wrong}
use Rattle.choosing.proofs.DecideStage.{sets-there, sets-charted}

-- a row that is cleared
pub wrong-clears : (row : List ℕ) (place : ℕ) {after : List ℕ} → after ≡ take 0 row ++ replicate (length row - 0) 0
    → answered (Err (NoSentence place)) after ≡ clear 10 place row
wrong-clears row place {after} e =
    let z : length row - 0 ≡ length row = omega arith in
    let y : after ≡ replicate (length row) 0 = e ∙ ap (λ (n : ℕ). replicate n 0) z in
    rw y refl

module _ (t w ms tally ws : List ℕ) {known : ℕ} (x : MayJudge t w ms tally ws known) {ms' tally' after : List ℕ} {r : Judged}
    (y : Judges t w ms tally ws ms' tally' after r) where
  -- the budget is out: the cells are as they were, if there were any
  pub out-wanted : {stand : ℕ} → stand ≡ sets_of tally known → CellsWanted t w after stand
  out-wanted {stand} e =
      record {
        ready = x.told.ready;
        lent = lent-kept y.long x.told.lent;
        charted = λ n.
            let l : 0 < sets_of tally known = omega arith in
            rw (y.same (sets-there tally known 0 l).0) (sets-charted tally known x.stage l);
      }

  pub out-given : {cells : List ℕ} → CellsRight t w after cells → Given t w cells
  out-given c = record { ready = x.told.ready; lent = lent-kept (c.kept ∙ y.long) x.told.lent; charted = c.charted }

  -- ---- the answers
  told : {o : Judged} → r ≡ o → JudgedAs t w tally' o
  told e = rw e at y.answer

  stuck-is : (row : List ℕ) {p : ℕ} {z : Answer} → p ≡ wrong_place (grammar_in t) w → z ≡ clear 10 p row
      → z ≡ on_conclusion (grammar_in t) w row machine.stuck
  stuck-is row e c = end-stuck (grammar_in t) w row (c ∙ ap (λ (p : ℕ). clear 10 p row) e)

  module _ (row : List ℕ) {stopped : Bool} where
    -- a sentence, for which the row was full
    pub sentence-short : {p : ℕ} → r ≡ Sentence p → stopped ≡ true → {cleared : List ℕ} → cleared ≡ take 0 row ++ replicate (length row - 0) 0
        → answered (Err ShortRow) cleared ≡ on_conclusion (grammar_in t) w row (stop_of stopped)
    sentence-short e f c = rw f (end_short (grammar_in t) w row {b = true} (sym (told e).0) refl c)

    -- a sentence on which the machine got stuck
    pub sentence-stuck : {p : ℕ} → r ≡ Sentence p → stopped ≡ false → {z : Answer} → z ≡ clear 10 p row
        → z ≡ on_conclusion (grammar_in t) w row (stop_of stopped)
    sentence-stuck e f c = rw f (stuck-is row (told e).1 c)

  -- no sentence
  pub wrong-is : (row : List ℕ) (stopped : Bool) {p : ℕ} → r ≡ Wrong p → {z : Answer} → z ≡ clear 10 p row
      → z ≡ on_conclusion (grammar_in t) w row (stop_of stopped)
  wrong-is row true e c = end-wrong (grammar_in t) w row {b = false} (sym (told e).0) refl (c ∙ ap (λ (p : ℕ). clear 10 p row) (told e).1)
  wrong-is row false e c = stuck-is row (told e).1 c

-- the cells answered
pub cells-full : (g : Grammar) (w row : List ℕ) {stopped : Bool} {z : Answer} → stopped ≡ true → z ≡ on_conclusion g w row machine.full
    → z ≡ on_conclusion g w row (stop_of stopped)
cells-full g w row f e = rw f e

pub cells-stuck : (g : Grammar) (w row : List ℕ) {stopped : Bool} {z : Answer} → stopped ≡ false → z ≡ on_conclusion g w row machine.stuck
    → z ≡ on_conclusion g w row (stop_of stopped)
cells-stuck g w row f e = rw f e
