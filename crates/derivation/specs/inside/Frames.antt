-- How the machine's stack lies in the working space: frames of six words behind cells of five.
use Rattle.std.specs.Prelude.{◌≡◌, List, [], ◌∷◌, ℕ, zero, suc, ◌+◌, ◌*◌, ◌≤◌, ◌<◌, get_or}

-- a cell, one for each place and position, is a set of positions 0 to 128
abbrev pub cell_words : ℕ
cell_words = 5

-- a frame is a return place, and a set of positions
abbrev pub frame_words : ℕ
frame_words = 6

-- words that are left when every cell and every frame has its own, for whatever else a reading keeps
abbrev pub spare_words : ℕ
spare_words = 7799

-- the return places of the lowest d frames, the topmost first; frame k stands at base + 6 · k
unfoldable pub returns_of : List ℕ → ℕ → ℕ → List ℕ
returns_of ws base zero = []
returns_of ws base (suc k) = get_or ws (base + frame_words * k) 0 ∷ returns_of ws base k

-- vs is ws with a frame on top of d frames, whose return place is q
pub record Pushed (ws vs : List ℕ) (base d q : ℕ) : Type 0 where
  pub top : get_or vs (base + frame_words * d) 0 ≡ q
  pub rest : (k : ℕ) → base ≤ k → k < base + frame_words * d → get_or vs k 0 ≡ get_or ws k 0
