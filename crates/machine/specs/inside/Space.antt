-- How the working space is laid out: cells first, then frames.
use Rattle.std.specs.Prelude.{◌≡◌, List, ◌∷◌, ℕ, zero, suc, ◌+◌, ◌*◌, ◌≤◌, length}
use Rattle.std.proofs.Math.Option.{some}
use Rattle.grammar.specs.Grammar.{first}
use Rattle.grammar.specs.inside.Tables.{grammar_in}
use Rattle.derivation.specs.inside.Frames.{frame_words, returns_of}
use Rattle.cells.specs.inside.Chart.{cells_end}
use Rattle.machine.specs.inside.Frames.{push_of}
use Rattle.machine.specs.declared.steps.Space.{Space}

-- where the frames begin
abbrev pub ground : List ℕ → List ℕ → ℕ
ground t w = cells_end (grammar_in t).size (length w)

-- the code's numbers are those of this grammar and note
pub record Spaced (t w : List ℕ) (s : Space) : Type 0 where
  pub places : s.places ≡ (grammar_in t).size
  pub base : s.base ≡ ground t w

-- nonterminal a has an alternative b
abbrev pub Named : List ℕ → ℕ → ℕ → Type 0
Named t a b = (f : ℕ) × (first (grammar_in t) a b ≡ some f)

-- a frame has room on top of d frames, if nonterminal a has an alternative for which it is needed
abbrev pub Roomy : List ℕ → List ℕ → ℕ → ℕ → ℕ → Type 0
Roomy t ws base d a = (b f : ℕ) → first (grammar_in t) a b ≡ some f → base + frame_words * suc d ≤ length ws

-- words with place q and the set s as frame d, if an alternative was found
abbrev pub push_if : ℕ → List ℕ → ℕ → ℕ → ℕ → List ℕ → List ℕ
push_if zero ws base d q s = ws
push_if (suc b) ws base d q s = push_of ws base d q s

-- the stack that stays open when a nonterminal waits: its return place q over d frames
abbrev pub opened : List ℕ → List ℕ → List ℕ → ℕ → ℕ → List ℕ
opened t w ws d q = q ∷ returns_of ws (ground t w) d
