-- The note as a whole, by ends on demand.
use Rattle.std.specs.Prelude.{◌≡◌, Bool, true, false, List, ℕ, ◌<◌, length}
use Rattle.grammar.specs.inside.Tables.{grammar_in}
use Rattle.derivation.specs.Runs.{marked}
use Rattle.derivation.specs.Plain.{sentence?}
use Rattle.derivation.specs.ReachRounds.{wrong_place}
use Rattle.first_follow.specs.inside.Words.{masks_in}
use Rattle.filtering.specs.inside.Cover.{Asked}
use Rattle.filtering.specs.inside.Known as known
use Rattle.search.specs.inside.Searching.{Searching, Sized, state_of, set_of, reply_in}
use Rattle.search.specs.inside.Trials.{CameSoFar}
use Rattle.search.specs.declared.words.Size.{Size}
use Rattle.search.specs.declared.given.Search.{Search}
use Rattle.search.specs.declared.replies.Reply.{Reply}
use Rattle.serving.specs.inside.Aids.{budget_in, high_in, Stage, Far, Tallied, Told}
use Rattle.serving.specs.declared.judging.Judged.{Judged}
use Rattle.serving.specs.declared.judging.Judged.TheVariants.{Sentence, Wrong, Out}

pub record MayJudge (t w ms tally ws : List ℕ) (known : ℕ) : Type 0 where
  pub told : Told t w tally ws
  pub stage : Stage t w ms tally ws known
  pub far : Far t w ms tally ws

-- a search with budget asks the start symbol from the note's beginning on
pub record MayStart (t w ms tally ws : List ℕ) (s : Size) : Type 0 where
  pub searching : Searching t w ms ws
  pub sized : Sized t w s
  pub tallied : Tallied tally
  pub budget : 1 < budget_in tally
  pub far : CameSoFar t w ms ws (high_in tally)

-- and where budget is left, it was asked
pub record Started (t w ms tally ws tally' after : List ℕ) : Type 0 where
  pub tallied : Tallied tally'
  pub begun : ¬ (budget_in tally' ≡ 0)
  pub long : length after ≡ length ws
  pub searching : Searching t w ms after
  pub asked : 1 < budget_in tally' → Asked (masks_in ms) (marked w) (state_of t w after).done 0 0
  pub far : 1 < budget_in tally' → CameSoFar t w ms after (high_in tally')

-- the answer, where budget is left
abbrev pub JudgedAs : List ℕ → List ℕ → List ℕ → Judged → Type 0
JudgedAs t w tally' (Sentence p) = (sentence? (grammar_in t) w ≡ true) × (p ≡ wrong_place (grammar_in t) w) × (1 < budget_in tally')
JudgedAs t w tally' (Wrong p) = (sentence? (grammar_in t) w ≡ false) × (p ≡ wrong_place (grammar_in t) w)
JudgedAs t w tally' Out = budget_in tally' ≡ 1

-- what is left to choose by then has no marks and no sets; cells that were there still are
pub record Judges (t w ms tally ws ms' tally' after : List ℕ) (r : Judged) : Type 0 where
  pub answer : JudgedAs t w tally' r
  pub tallied : Tallied tally'
  pub begun : ¬ (budget_in tally' ≡ 0)
  pub stage : Stage t w ms' tally' after 0
  pub long : length after ≡ length ws
  pub same : budget_in tally ≡ 1 → after ≡ ws

-- the note's end is among the ends that a reply tells
abbrev pub tells_end : List ℕ → List ℕ → List ℕ → Reply → Bool
tells_end t w ws r = known.tells (reply_in (set_of t w ws 0 0) r) (length w)

-- the same of what the code holds
abbrev pub StartsFrom : Search → List ℕ → List ℕ → Type 0
StartsFrom s tally ws = MayStart s.tables.now s.note.now s.masks.now tally ws s.size

abbrev pub StartedBy : Search → List ℕ → List ℕ → List ℕ → List ℕ → Type 0
StartedBy s tally ws tally' after = Started s.tables.now s.note.now s.masks.now tally ws tally' after
