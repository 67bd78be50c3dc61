-- Frames whose sets are not written: a quick reading keeps only return places until a prediction says FULL. How their sets are then made right, wherever
-- they can be asked.
use Rattle.std.specs.Prelude.{◌≡◌, ◌&&◌, List, ℕ, suc, ◌+◌, ◌*◌, ◌≤◌, ◌<◌, T, length, get_or}
use Rattle.grammar.specs.Limits.{end_place}
use Rattle.grammar.specs.inside.Tables.{grammar_in}
use Rattle.positions.specs.inside.Positions.{position_count, member, meets_of}
use Rattle.positions.specs.inside.Words.{set_at}
use Rattle.derivation.specs.Runs.{marked}
use Rattle.derivation.specs.inside.Frames.{frame_words, returns_of}
use Rattle.cells.specs.inside.Chart.{spot, cells_end, cell_has, Lent, Charted}
use Rattle.machine.specs.inside.Frames.{frame_has, EveryFrame, FramesBelow, Good}
use Rattle.derivation.specs.inside.Ready.{Ready}
use Rattle.machine.specs.inside.Space.{ground, Spaced}
use Rattle.machine.specs.declared.steps.At.{At}
use Rattle.machine.specs.declared.steps.Space.{Space}

-- the return place of frame k
abbrev pub return_at : List ℕ → ℕ → ℕ → ℕ
return_at ws base k = get_or ws (base + frame_words * k) 0

-- of all words only those of the sets of the frames from `known` up to d may have changed
pub record SetsOnly (base known d : ℕ) (ws after : List ℕ) : Type 0 where
  pub long : length after ≡ length ws
  pub low : (j : ℕ) → j < base + frame_words * known → get_or after j 0 ≡ get_or ws j 0
  pub places : (k : ℕ) → return_at after base k ≡ return_at ws base k
  pub high : (j : ℕ) → base + frame_words * d ≤ j → get_or after j 0 ≡ get_or ws j 0

-- d frames behind the cells of P places and n tokens; those from `known` on return to places that have cells
pub record Framed (P n base known d : ℕ) (ws : List ℕ) : Type 0 where
  pub lent : Lent P n ws
  pub begins : base ≡ cells_end P n
  pub some : 0 < known
  pub most : known ≤ d
  pub room : base + frame_words * d ≤ length ws
  pub returns : (k : ℕ) → known ≤ k → k < d → return_at ws base k < P

-- the sets from `known` on hold every position at which they can be asked, where the topmost is asked at those of `asked`: each other one where the return
-- place above it can end from a position in the set above
pub record AskedDown (P n base known d : ℕ) (asked ws after : List ℕ) : Type 0 where
  pub kept : SetsOnly base known d ws after
  pub top : (k m : ℕ) → known ≤ k → suc k ≡ d → m < position_count → T (member asked m) → T (frame_has after base k m)
  pub under : (k m j : ℕ) → known ≤ k → suc k < d → m ≤ n → j < position_count → T (frame_has after base (suc k) m)
      → T (cell_has P ws (return_at ws base (suc k)) m j) → T (frame_has after base k j)

-- each set from `known` on keeps those of its positions from which the return place can end in the set below
pub record ServedUp (P n base known d : ℕ) (ws after : List ℕ) : Type 0 where
  pub kept : SetsOnly base known d ws after
  pub sets : (k m : ℕ) → known ≤ suc k → suc k < d → m ≤ n
      → frame_has after base (suc k) m
      ≡ (frame_has ws base (suc k) m && meets_of (set_at ws (spot P (return_at ws base (suc k)) m)) (set_at after (base + frame_words * k + 1)))

-- the return places of d frames: the end place lies at the bottom, all others are places of the grammar
pub record Floored (P : ℕ) (ws : List ℕ) (base d : ℕ) : Type 0 where
  pub some : 0 < d
  pub bottom : return_at ws base 0 ≡ end_place
  pub places : (k : ℕ) → 1 ≤ k → k < d → return_at ws base k < P

-- place p over d frames at position i, where it calls a nonterminal: the sets of the lowest `known` frames stand, and the cells are right if any does
pub record Standing (t w ws : List ℕ) (known d p i : ℕ) : Type 0 where
  pub lent : Lent (grammar_in t).size (length w) ws
  pub room : ground t w + frame_words * d ≤ length ws
  pub floored : Floored (grammar_in t).size ws (ground t w) d
  pub place : p < (grammar_in t).size
  pub position : i ≤ length w
  pub charted : 0 < known → Charted t w ws
  pub good : Good (grammar_in t) (marked w) ws (ground t w) (FramesBelow known) d p i

-- place p over d frames at position i: the cells are right, and the sets of the lowest `known` frames where they can be asked; one at least
pub record Unsettled (t w ws : List ℕ) (known d p i : ℕ) : Type 0 where
  pub framed : Framed (grammar_in t).size (length w) (ground t w) known d ws
  pub charted : Charted t w ws
  pub place : p < (grammar_in t).size
  pub position : i ≤ length w
  pub good : Good (grammar_in t) (marked w) ws (ground t w) (FramesBelow known) d p i

-- what filling the cells, and then making the sets right, rest on
pub record Tabling (t w ws : List ℕ) (s : Space) (known : ℕ) (at : At) : Type 0 where
  pub ready : Ready t
  pub spaced : Spaced t w s
  pub standing : Standing t w ws known at.depth at.place at.position

pub record Settling (t w ws : List ℕ) (s : Space) (known : ℕ) (at : At) : Type 0 where
  pub ready : Ready t
  pub spaced : Spaced t w s
  pub unsettled : Unsettled t w ws known at.depth at.place at.position

-- it came to that, with the sets of r frames; no return place has changed
pub record Tabled (t w ws after : List ℕ) (d p i r : ℕ) : Type 0 where
  pub unsettled : Unsettled t w after r d p i
  pub kept : length after ≡ length ws
  pub returns : (k : ℕ) → return_at after (ground t w) k ≡ return_at ws (ground t w) k

-- now all are, and nothing else has changed
pub record SetsSettled (t w ws after : List ℕ) (known d p i : ℕ) : Type 0 where
  pub kept : SetsOnly (ground t w) known d ws after
  pub charted : Charted t w after
  pub returns : returns_of after (ground t w) d ≡ returns_of ws (ground t w) d
  pub good : Good (grammar_in t) (marked w) after (ground t w) EveryFrame d p i
