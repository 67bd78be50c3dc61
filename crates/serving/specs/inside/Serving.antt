-- Where a nonterminal waits: what the lowest alternative that serves rests on, and what entering it leaves.
use Rattle.std.specs.Prelude.{◌≡◌, List, [], ◌∷◌, ℕ, suc, ◌<◌, length}
use Rattle.std.proofs.Math.Option.{some}
use Rattle.grammar.specs.Limits.{end_place}
use Rattle.grammar.specs.Grammar.{first}
use Rattle.grammar.specs.inside.Tables.{grammar_in}
use Rattle.derivation.specs.Runs.{marked}
use Rattle.derivation.specs.Machine.{lowest}
use Rattle.derivation.specs.inside.Frames.{returns_of}
use Rattle.derivation.specs.inside.Ready.{Ready}
use Rattle.derivation.specs.inside.Entries.{FramesOpen}
use Rattle.cells.specs.inside.Chart.{Lent, Charted}
use Rattle.machine.specs.inside.Frames.{EveryFrame, FramesBelow, Good}
use Rattle.machine.specs.inside.Choice.{or_zero}
use Rattle.machine.specs.inside.Space.{ground, opened, Spaced}
use Rattle.machine.specs.inside.Waits.{Waits}
use Rattle.machine.specs.declared.steps.At.{At}
use Rattle.machine.specs.declared.steps.Space.{Space}

-- nonterminal a waits at `at`: the sets of the lowest `known` frames stand, and the cells are right if any does
pub record Waiting (t w ws : List ℕ) (s : Space) (known : ℕ) (at : At) (a : ℕ) : Type 0 where
  pub ready : Ready t
  pub spaced : Spaced t w s
  pub lent : Lent (grammar_in t).size (length w) ws
  pub charted : 0 < known → Charted t w ws
  pub waits : Waits t w ws (FramesBelow known) at.depth at.place a at.position

-- alternative r of a is entered from words ws: its return place q is the topmost frame, and over it from the alternative's first place on those sets are
-- right of which K speaks
pub record Entering (t w ws after : List ℕ) (K : ℕ → Type 0) (d q a i r : ℕ) : Type 0 where
  pub kept : length after ≡ length ws
  pub returns : ¬ (r ≡ 0) → returns_of after (ground t w) (suc d) ≡ opened t w ws d q
  pub held : (f : ℕ) → first (grammar_in t) a r ≡ some f → FramesOpen (grammar_in t) (end_place ∷ []) (length w) after (ground t w) (suc d) f i
  pub good : (f : ℕ) → first (grammar_in t) a r ≡ some f → Good (grammar_in t) (marked w) after (ground t w) K (suc d) f i

-- r is the plain chooser's alternative, 0 for none
pub record Found (t w ws after : List ℕ) (d q a i r : ℕ) : Type 0 where
  pub chosen : r ≡ or_zero (lowest (grammar_in t) (marked w) (opened t w ws d q) a i)
  pub charted : Charted t w after
  pub entering : Entering t w ws after EveryFrame d q a i r

-- ---- the cells alone
-- what filling the cells rests on, where they may be right already
pub record CellsWanted (t w ws : List ℕ) (known : ℕ) : Type 0 where
  pub ready : Ready t
  pub lent : Lent (grammar_in t).size (length w) ws
  pub charted : 0 < known → Charted t w ws

-- the cells are right
pub record CellsRight (t w ws after : List ℕ) : Type 0 where
  pub charted : Charted t w after
  pub kept : length after ≡ length ws
