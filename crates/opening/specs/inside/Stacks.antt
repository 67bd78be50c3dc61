-- The stack of open frames behind the words of the search.
use Rattle.std.specs.Prelude.{◌≡◌, List, ℕ, ◌+◌, ◌*◌, ◌≤◌, length, get_or}
use Rattle.grammar.specs.inside.Tables.{grammar_in, nonterminals_in}
use Rattle.derivation.specs.Runs.{marked}
use Rattle.derivation.specs.inside.Frames.{frame_words}
use Rattle.search.specs.inside.Words.{search_words}
use Rattle.search.specs.inside.Searching.{Searching, Sized, Holds}
use Rattle.search.specs.declared.words.Size.{Size}
use Rattle.opening.specs.inside.Marks.{Marks}

-- d frames from `base` on, behind the words of the search; the lowest `known` of them have marks
pub record Stacked (t w ms ws : List ℕ) (s : Size) (base d known : ℕ) : Type 0 where
  pub searching : Searching t w ms ws
  pub sized : Sized t w s
  pub behind : search_words (nonterminals_in t) (length w) ≤ base
  pub room : base + frame_words * d ≤ length ws
  pub marks : Marks (grammar_in t) (marked w) ws base known

-- no return place has changed, what is worked out is right, and the marks of the lowest `known` frames stand
pub record StackKept (t w ms ws after : List ℕ) (base known : ℕ) : Type 0 where
  pub long : length after ≡ length ws
  pub places : (k : ℕ) → get_or after (base + frame_words * k) 0 ≡ get_or ws (base + frame_words * k) 0
  pub holds : Holds t w ms after
  pub marks : Marks (grammar_in t) (marked w) after base known
