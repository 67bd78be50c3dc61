-- Where a nonterminal waits: sets stand only where the cells are right; and an alternative that is taken without a set or a mark leaves what there is to
-- choose by as it stood, and the frames as it is entered.
use mathlib.Core.Path.{◌≡◌, refl}
use mathlib.Core.List.{List}
use Prim.Native.Nat.{ℕ, suc, ◌+◌, ◌*◌, ◌≤◌, ◌<◌, min}
use native.Mathlib.Omega.{arith}
use native.Mathlib.Decide.{ℕ_discrete}
use lib.ListN.{length, get_or, set}
use Rattle.grammar.specs.inside.Tables.{grammar_in, nonterminals_in}
use Rattle.derivation.specs.Runs.{marked}
use Rattle.derivation.specs.inside.Frames.{frame_words}
use Rattle.cells.specs.inside.Chart.{Charted}
use Rattle.machine.specs.inside.Frames.{FramesBelow}
use Rattle.machine.specs.inside.Space.{Named, ground}
use Rattle.machine.specs.declared.steps.At.{At}
use Rattle.machine.specs.declared.steps.Space.{Space}
use Rattle.machine.proofs.GoodLaws.{good-fewer}
use Rattle.machine.proofs.PushLaws.{low-charted, put-below}
use Rattle.machine.proofs.WaitLaws.{waits-fewer}
use Rattle.serving.specs.inside.Serving.{Waiting, Entering}
use Rattle.serving.specs.inside.Aids.{budget_in, Stage, nothing, search, table, SetsStand, Far, sets_of, MayServe}
use Rattle.serving.proofs.AidLaws.{sets-stand, sets-none}
use Rattle.serving.proofs.StageLaws.{stage-table, search-behind, searching-same, came_same, marks-same}
use Rattle.serving.proofs.WaitingLaws.{waiting-named, one, taken-entering}

-- ---- sets stand only where the budget is out, and the cells are right then
module _ (tally : List ℕ) (known : ℕ) where
  pub sets-there : (k : ℕ) → k < sets_of tally known → SetsStand tally known k
  sets-there k l = go (ℕ_discrete (budget_in tally) 1)
    where
      go : Dec (budget_in tally ≡ 1) → SetsStand tally known k
      go (yes e) = (e, omega (arith, sets-stand tally known e))
      go (no n) = absurd (omega (arith, sets-none tally known n))

  sets-are : (k : ℕ) → budget_in tally ≡ 1 → k < known → k < sets_of tally known
  sets-are k e l = omega (arith, sets-stand tally known e)

  pub sets-charted : {t w ms ws : List ℕ} → Stage t w ms tally ws known → 0 < sets_of tally known → Charted t w ws
  sets-charted x l = let y = sets-there 0 l in stage-table y.0 x y.1

-- ---- words that agree below frame d
module _ (t w ms tally ws after : List ℕ) (d : ℕ) (long : length after ≡ length ws)
    (word : (j : ℕ) → j < ground t w + frame_words * d → get_or after j 0 ≡ get_or ws j 0) where
  -- what there is to choose by stands, of no frame from d on
  low-stage : {known known' : ℕ} → known' ≤ known → known' ≤ d → Stage t w ms tally ws known → Stage t w ms tally after known'
  low-stage l m (nothing e f z) = nothing e f (omega arith)
  low-stage {known} {known'} l m (search b f x y) =
      search b f (searching-same t w ws after (λ j n. word j (omega (arith, search-behind t w f))) long x)
      (marks-same (grammar_in t) (marked w) ws after (ground t w) known' (λ j n o. word j (omega arith)) (λ k n. y k (omega arith)))
  low-stage l m (table e x) = table e (λ n. low-charted t w ws after (λ j o. word j (omega arith)) (x (omega arith)))

  -- and how far a search came
  low-far : {known : ℕ} → Stage t w ms tally ws known → Far t w ms tally ws → Far t w ms tally after
  low-far (nothing e f z) x = λ b. absurd (omega arith)
  low-far (search b f x y) z = λ c. came_same t w ws after (λ j n. word j (omega (arith, search-behind t w f))) (z c)
  low-far (table e y) x = λ b. absurd (omega arith)

module _ (t w ms tally ws : List ℕ) {s : Space} {known : ℕ} {at : At} {a : ℕ} (x : MayServe t w ms tally ws s known at a) where
  -- as one waits by the sets that stand
  waiting : Waiting t w ws s (sets_of tally known) at a
  waiting =
      record {
        ready = x.told.ready;
        spaced = x.spaced;
        lent = x.told.lent;
        charted = sets-charted tally known x.stage;
        waits = waits-fewer (SetsStand tally known) (FramesBelow (sets_of tally known)) (λ k l m. sets-there tally known k m) x.waits;
      }

  pub serve-named : a < nonterminals_in t
  serve-named = waiting-named t w ws waiting

  -- there is a first alternative
  pub serve-one : Named t a 1
  serve-one = one t w ws waiting

  -- ---- an alternative is taken without a set or a mark: its frame is a return place alone
  module _ {after : List ℕ} (put : after ≡ set ws (s.base + frame_words * at.depth) at.place) {known' : ℕ} (fewer : known' ≡ min known at.depth) where
    entered : (b : ℕ) → Entering t w ws after (FramesBelow (min (sets_of tally known) at.depth)) at.depth at.place a at.position b
    entered b = taken-entering t w ws waiting x.spaced.base put refl b

    pub pushed-stage : Stage t w ms tally after known'
    pushed-stage =
        low-stage t w ms tally ws after at.depth (entered 1).kept (put-below ws at.depth at.place x.spaced.base put) (omega arith) (omega arith)
        x.stage

    pub pushed-far : Far t w ms tally ws → Far t w ms tally after
    pushed-far = low-far t w ms tally ws after at.depth (entered 1).kept (put-below ws at.depth at.place x.spaced.base put) x.stage

    pub pushed-entering : (b : ℕ) → Entering t w ws after (SetsStand tally known') at.depth at.place a at.position b
    pushed-entering b =
        record {
          kept = (entered b).kept;
          returns = (entered b).returns;
          held = (entered b).held;
          good = λ f e.
              good-fewer (grammar_in t) (marked w) (ground t w) after (FramesBelow (min (sets_of tally known) at.depth)) (SetsStand tally known')
              (suc at.depth) f at.position (λ k l m. stands k m.0 m.1) ((entered b).good f e);
        }
      where
        stands : (k : ℕ) → budget_in tally ≡ 1 → k < known' → k < min (sets_of tally known) at.depth
        stands k e l = omega (arith, sets-are tally known k e (omega arith))
