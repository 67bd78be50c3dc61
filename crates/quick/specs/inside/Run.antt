-- What the machine's loop leaves when each alternative is chosen by the quick reading's chooser, and what follows from that.
use Rattle.std.specs.Prelude.{Bool, true, false, List, ℕ, length}
use Rattle.grammar.specs.inside.Tables.{grammar_in}
use Rattle.derivation.specs.Runs.{marked}
use Rattle.derivation.specs.Machine.{Ended, reading, Conclusion, stuck, full}
use Rattle.adaptive.specs.Chooser.{adaptively}
use Rattle.machine.specs.inside.Ending.{Counted}
use Rattle.machine.specs.inside.Going.{Ran}
use Rattle.serving.specs.inside.Aids.{Tallied, Stage, Far}
use Rattle.serving.specs.inside.Judging.{MayJudge}
use Rattle.serving.specs.declared.running.Stop.{Stop}

-- the end of the whole reading of note w over the words c, with room for so many alternatives
abbrev pub quick_end : List ℕ → List ℕ → ℕ → List ℕ → Ended (List ℕ)
quick_end t w room c = reading (grammar_in t) (marked w) (adaptively (grammar_in t) (marked w)) room c

-- it stopped as the quick reading of the definitions ends, with something to choose by for so many frames
pub record QuickRan (t w row ws c : List ℕ) (r : Stop) (row' ms' tally' ws' c' : List ℕ) : Type 0 where
  pub ran : Ran (quick_end t w (length row) c) row ws r.outcome c' row' ws'
  pub tallied : Tallied tally'
  pub stage : Stage t w ms' tally' ws' r.known
  pub far : Far t w ms' tally' ws'

-- what an answer rests on, then
pub record Stopped (t w row ms tally ws : List ℕ) (r : Stop) : Type 0 where
  pub judge : MayJudge t w ms tally ws r.known
  pub within : Counted r.outcome row

-- the machine stopped because the row was full, or because nothing fits
abbrev pub stop_of : Bool → Conclusion
stop_of true = full
stop_of false = stuck
