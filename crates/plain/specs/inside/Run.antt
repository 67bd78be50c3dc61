-- What the machine's loop leaves when each alternative is the lowest that serves.
use Rattle.std.specs.Prelude.{◌≡◌, Bool, true, List, [], ◌∷◌, ℕ, ◌<◌, length}
use Rattle.grammar.specs.Limits.{end_place}
use Rattle.grammar.specs.inside.Tables.{grammar_in}
use Rattle.derivation.specs.Runs.{marked, Serves}
use Rattle.derivation.specs.Plain.{sentence?}
use Rattle.derivation.specs.Machine.{plainly, Ended, reading}
use Rattle.machine.specs.inside.Ending.{Counted}
use Rattle.machine.specs.inside.Going.{Ran}
use Rattle.serving.specs.inside.Aids.{budget_in, Told, Tallied, Stage}
use Rattle.serving.specs.declared.running.Stop.{Stop}

-- something was worked out to choose by; if a search has budget, the note is a sentence
pub record MayRun (t w ms tally ws : List ℕ) : Type 0 where
  pub told : Told t w tally ws
  pub begun : ¬ (budget_in tally ≡ 0)
  pub stage : Stage t w ms tally ws 0
  pub serves : 1 < budget_in tally → (b : ℕ) × Serves (grammar_in t) (marked w) (end_place ∷ []) 0 0 b

-- the end of the whole reading of note w, with room for so many alternatives
abbrev pub plain_end : List ℕ → List ℕ → ℕ → Ended (Unit {0})
plain_end t w room = reading (grammar_in t) (marked w) (plainly (grammar_in t) (marked w)) room tt

-- it stopped as the plain reading of the definitions ends, with something to choose by for so many frames
pub record PlainRan (t w row ws : List ℕ) (r : Stop) (row' ms tally' ws' : List ℕ) : Type 0 where
  pub ran : Ran (plain_end t w (length row)) row ws r.outcome tt row' ws'
  pub tallied : Tallied tally'
  pub stage : Stage t w ms tally' ws' r.known

-- what an answer rests on, then
pub record Stopped (t w row tally ws : List ℕ) (r : Stop) (sentence : Bool) : Type 0 where
  pub told : Told t w tally ws
  pub masks : List ℕ
  pub stage : Stage t w masks tally ws r.known
  pub within : Counted r.outcome row
  pub sound : sentence ≡ true → sentence? (grammar_in t) w ≡ true
