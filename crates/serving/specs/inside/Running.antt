-- The machine's loop, whatever chooses: what a choice leaves, and how the loop stops.
use Rattle.std.specs.Prelude.{◌≡◌, List, ℕ, suc}
use Rattle.std.proofs.Math.Option.{none, some}
use Rattle.grammar.specs.Grammar.{first}
use Rattle.grammar.specs.inside.Tables.{grammar_in}
use Rattle.derivation.specs.Runs.{marked}
use Rattle.derivation.specs.Machine.{Choice, Ended}
use Rattle.machine.specs.inside.Space.{Named, ground}
use Rattle.machine.specs.inside.Moves.{ToCall}
use Rattle.machine.specs.inside.Going.{Ran}
use Rattle.serving.specs.inside.Serving.{Entering}
use Rattle.serving.specs.inside.Aids.{Told, Tallied, Stage, SetsStand}
use Rattle.serving.specs.declared.running.Stop.{Stop}

-- what the loop begins with: no marks and no sets
pub record MayGo (t w ms tally ws : List ℕ) : Type 0 where
  pub told : Told t w tally ws
  pub stage : Stage t w ms tally ws 0

-- r is the alternative of a definition's choice x, 0 for none, and c the state behind it; E holds, and K wherever the next nonterminal waits
pub record Picked {C : Type 0} (t w : List ℕ) (x : Choice C) (c : C) (E : Type 0) (K : ℕ → ℕ → ℕ → ℕ → Type 0) (ws ms' tally' after : List ℕ)
    (d q a i known r : ℕ) : Type 0 where
  pub nothing : r ≡ 0 → x.alternative ≡ none
  pub taken : ¬ (r ≡ 0) → x.alternative ≡ some r
  pub named : ¬ (r ≡ 0) → Named t a r
  pub state : c ≡ x.state
  pub kept : E
  pub again : (f d' q' a' i' : ℕ) → ¬ (r ≡ 0) → first (grammar_in t) a r ≡ some f
      → ToCall (grammar_in t) (marked w) after (ground t w) f (suc d) i q' d' i' a' → K d' q' a' i'
  pub tallied : Tallied tally'
  pub stage : Stage t w ms' tally' after known
  pub entering : Entering t w ws after (SetsStand tally' known) d q a i r

-- the loop stopped as the whole reading of the definitions ends, with something to choose by for so many frames, and E holds
pub record Halted {C : Type 0} (end : Ended C) (c : C) (E : Type 0) (t w row ws : List ℕ) (r : Stop) (row' ms' tally' ws' : List ℕ) : Type 0 where
  pub ran : Ran end row ws r.outcome c row' ws'
  pub tallied : Tallied tally'
  pub stage : Stage t w ms' tally' ws' r.known
  pub kept : E
