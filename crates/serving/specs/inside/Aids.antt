-- What a reading has worked out to choose by, in three stages: nothing yet; ends on demand, while their budget lasts; and the derivation cells.
use Rattle.std.specs.Prelude.{◌≡◌, cond, List, [], ◌∷◌, ℕ, suc, ◌+◌, ◌*◌, ◌/◌, ◌≤◌, ◌<◌, eqb, length, get_or, replicate}
use Rattle.grammar.specs.declared.Symbol.TheVariants.{Nonterminal}
use Rattle.grammar.specs.Limits.{end_place}
use Rattle.grammar.specs.Grammar.{facing}
use Rattle.grammar.specs.inside.Tables.{grammar_in, nonterminals_in}
use Rattle.positions.specs.inside.Positions.{set_words}
use Rattle.derivation.specs.Runs.{marked, Serves}
use Rattle.derivation.specs.Machine.{lowest}
use Rattle.derivation.specs.Demand2.{Known}
use Rattle.derivation.specs.inside.Ready.{Ready}
use Rattle.first_follow.specs.inside.Words.{mask_words}
use Rattle.filtering.specs.inside.OpenStacks.{Standing}
use Rattle.cells.specs.inside.Chart.{Lent, Charted}
use Rattle.machine.specs.inside.Choice.{or_zero}
use Rattle.machine.specs.inside.Space.{ground, opened, Spaced}
use Rattle.machine.specs.inside.Waits.{Waits}
use Rattle.machine.specs.declared.steps.At.{At}
use Rattle.machine.specs.declared.steps.Space.{Space}
use Rattle.search.specs.inside.Searching.{Searching}
use Rattle.search.specs.inside.Trials.{CameSoFar}
use Rattle.opening.specs.inside.Marks.{Marks}
use Rattle.serving.specs.inside.Serving.{Entering}

-- ---- the tally
abbrev pub tally_words : ℕ
tally_words = 2

-- what is left of the budget, and 1; 0 where no search has begun
abbrev pub budget_in : List ℕ → ℕ
budget_in tally = get_or tally 0 0

-- how far into the note the search came; before it has begun, the most that it may spend
abbrev pub high_in : List ℕ → ℕ
high_in tally = get_or tally 1 0

abbrev pub tally_of : ℕ → ℕ → List ℕ
tally_of budget high = budget ∷ high ∷ []

-- the units of work of a reading
abbrev pub units_of : ℕ → ℕ → ℕ
units_of P n = 128 + (8 + P / 12) * (n + 1)

-- ---- the stages
-- the words of the cells are enough for the search
abbrev pub Fits : List ℕ → Type 0
Fits t = suc (7 * nonterminals_in t) ≤ set_words * (grammar_in t).size

-- where so many frames have marks, or sets
pub data Stage (t w ms tally ws : List ℕ) (known : ℕ) : Type 0 where
  nothing : budget_in tally ≡ 0 → ms ≡ replicate mask_words 0 → known ≡ 0 → Stage t w ms tally ws known
  search : 1 < budget_in tally → Fits t → Searching t w ms ws → Marks (grammar_in t) (marked w) ws (ground t w) known → Stage t w ms tally ws known
  table : budget_in tally ≡ 1 → (0 < known → Charted t w ws) → Stage t w ms tally ws known

-- the sets of frame k stand
abbrev pub SetsStand : List ℕ → ℕ → ℕ → Type 0
SetsStand tally known k = (budget_in tally ≡ 1) × (k < known)

-- how far a search came is what the tally says
abbrev pub Far : List ℕ → List ℕ → List ℕ → List ℕ → List ℕ → Type 0
Far t w ms tally ws = 1 < budget_in tally → CameSoFar t w ms ws (high_in tally)

-- the words of tallies and budgets
pub record Tallied (tally : List ℕ) : Type 0 where
  pub long : length tally ≡ tally_words
  pub few : budget_in tally < 65536

-- masks of zeros: no search has begun
pub record Unbegun (ms tally : List ℕ) : Type 0 where
  pub blank : ms ≡ replicate mask_words 0
  pub long : length tally ≡ tally_words
  pub nothing : budget_in tally ≡ 0

-- of how many frames the sets stand, where `known` have marks or sets
unfoldable pub sets_of : List ℕ → ℕ → ℕ
sets_of tally known = cond (eqb (budget_in tally) 1) known 0

-- ---- beginning a search
-- tables, a note of known tokens, and words of working space, whatever was worked out
pub record Told (t w tally ws : List ℕ) : Type 0 where
  pub ready : Ready t
  pub tokens : Known (grammar_in t).kinds w
  pub lent : Lent (grammar_in t).size (length w) ws
  pub tallied : Tallied tally

pub record MayBegin (t w ms tally ws : List ℕ) : Type 0 where
  pub told : Told t w tally ws
  pub blank : budget_in tally ≡ 0 → ms ≡ replicate mask_words 0

-- where one had begun, nothing has changed; else it has begun, with no pair worked out, or its budget is out; no word behind those of the cells has changed
pub record Begun (t w ms tally ws ms' tally' after : List ℕ) : Type 0 where
  pub same : ¬ (budget_in tally ≡ 0) → (ms' ≡ ms) × (tally' ≡ tally) × (after ≡ ws)
  pub tallied : Tallied tally'
  pub begun : ¬ (budget_in tally' ≡ 0)
  pub fresh : budget_in tally ≡ 0 → 1 < budget_in tally' → Fits t × Searching t w ms' after × CameSoFar t w ms' after (high_in tally')
  pub long : length after ≡ length ws
  pub behind : (j : ℕ) → ground t w ≤ j → get_or after j 0 ≡ get_or ws j 0

-- ---- where a nonterminal waits
-- the stack under it is open, and whatever is asked of it is called by the note
pub data Upright (t w ws : List ℕ) (d q a i : ℕ) : Type 0 where
  begins : d ≡ 0 → q ≡ end_place → a ≡ 0 → i ≡ 0 → Upright t w ws d q a i
  called : (p : ℕ) → q ≡ suc p → facing (grammar_in t) p ≡ Nonterminal a → Standing (grammar_in t) (marked w) ws (ground t w) d p i → Upright t w ws d q a i

pub record MayServe (t w ms tally ws : List ℕ) (s : Space) (known : ℕ) (at : At) (a : ℕ) : Type 0 where
  pub told : Told t w tally ws
  pub spaced : Spaced t w s
  pub stage : Stage t w ms tally ws known
  pub waits : Waits t w ws (SetsStand tally known) at.depth at.place a at.position
  pub upright : Upright t w ws at.depth at.place a at.position

-- a search has budget
pub record MaySearch (t w ms tally ws : List ℕ) (s : Space) (known : ℕ) (at : At) (a : ℕ) : Type 0 where
  pub serve : MayServe t w ms tally ws s known at a
  pub budget : 1 < budget_in tally

-- something was worked out, and if a search has budget, some alternative serves
pub record MayTake (t w ms tally ws : List ℕ) (s : Space) (known : ℕ) (at : At) (a : ℕ) : Type 0 where
  pub serve : MayServe t w ms tally ws s known at a
  pub begun : ¬ (budget_in tally ≡ 0)
  pub serves : 1 < budget_in tally → (b : ℕ) × Serves (grammar_in t) (marked w) (opened t w ws at.depth at.place) a at.position b

-- r is the plain chooser's alternative, 0 for none
pub record Served (t w ms tally ws ms' tally' after : List ℕ) (d q a i known' r : ℕ) : Type 0 where
  pub chosen : r ≡ or_zero (lowest (grammar_in t) (marked w) (opened t w ws d q) a i)
  pub tallied : Tallied tally'
  pub begun : ¬ (budget_in tally' ≡ 0)
  pub stage : Stage t w ms' tally' after known'
  pub entering : Entering t w ws after (SetsStand tally' known') d q a i r

-- and how far the search came is still what the tally says
pub record ServedFar (t w ms tally ws ms' tally' after : List ℕ) (d q a i known' r : ℕ) : Type 0 where
  pub served : Served t w ms tally ws ms' tally' after d q a i known' r
  pub far : Far t w ms tally ws → Far t w ms' tally' after
