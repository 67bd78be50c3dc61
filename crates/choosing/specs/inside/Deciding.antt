-- A choice of the quick reading where a nonterminal waits: what it rests on, and what it leaves.
use Rattle.std.specs.Prelude.{◌≡◌, List, ℕ, ◌≤◌, length}
use Rattle.std.proofs.Math.Option.{none, some}
use Rattle.grammar.specs.inside.Tables.{grammar_in}
use Rattle.derivation.specs.Runs.{marked}
use Rattle.derivation.specs.Machine.{Choice}
use Rattle.words.specs.Layout.{min_words}
use Rattle.adaptive.specs.Chooser.{adaptively}
use Rattle.machine.specs.inside.Space.{Named, opened}
use Rattle.machine.specs.declared.steps.At.{At}
use Rattle.machine.specs.declared.steps.Space.{Space}
use Rattle.serving.specs.inside.Serving.{Entering}
use Rattle.serving.specs.inside.Aids.{MayServe, Stage, SetsStand, Far, Tallied}

-- nonterminal a waits at `at`, and it can be predicted, over the cache's words c
pub record Deciding (t w ms tally c ws : List ℕ) (s : Space) (known : ℕ) (at : At) (a : ℕ) : Type 0 where
  pub serve : MayServe t w ms tally ws s known at a
  pub long : min_words ≤ length c

-- what the quick reading's chooser answers over the stack that stays open
abbrev pub choice_at : List ℕ → List ℕ → List ℕ → List ℕ → ℕ → ℕ → ℕ → ℕ → Choice (List ℕ)
choice_at t w ws c d q a i = adaptively (grammar_in t) (marked w) c (opened t w ws d q) a i

-- r is its alternative, 0 for none, and c' its state: the cache's words after it; what there is to choose by stands for `known` frames
pub record Chose (t w ms tally ws ms' tally' after c c' : List ℕ) (d q a i known r : ℕ) : Type 0 where
  pub nothing : r ≡ 0 → (choice_at t w ws c d q a i).alternative ≡ none
  pub taken : ¬ (r ≡ 0) → (choice_at t w ws c d q a i).alternative ≡ some r
  pub named : ¬ (r ≡ 0) → Named t a r
  pub words : c' ≡ (choice_at t w ws c d q a i).state
  pub long : length c' ≡ length c
  pub tallied : Tallied tally'
  pub stage : Stage t w ms' tally' after known
  pub far : Far t w ms tally ws → Far t w ms' tally' after
  pub entering : Entering t w ws after (SetsStand tally' known) d q a i r
