-- Where the productions that begin at one position end: what one look along a production adds to what is known so far.
use Rattle.std.specs.Prelude.{◌≡◌, Bool, ◌&&◌, ◌||◌, ℕ, suc, ◌*◌, ◌<◌, T, length}
use Rattle.std.proofs.Math.Bool.{false}
use mathlib.Core.List.{List, [], ◌∷◌}
use Rattle.std.proofs.Math.Dec.{eqb}
use Rattle.base.specs.Rounds.{any_of}
use Rattle.grammar.specs.declared.Symbol.{Symbol}
use Rattle.grammar.specs.declared.Symbol.TheVariants.{Token, Nonterminal, End}
use Rattle.grammar.specs.Limits.{max_nonterminals}
use Rattle.grammar.specs.Grammar.{Grammar, alternatives, suffix}
use Rattle.grammar.specs.inside.Tables.{grammar_in, nonterminals_in}
use Rattle.positions.specs.inside.Positions.{position_count, set_words}
use Rattle.positions.specs.inside.Words.{member_at}
use Rattle.derivation.specs.Cells.{derives?}
use Rattle.cells.specs.inside.Matches.{matches_at}
use Rattle.cells.specs.inside.Through.{through_of}

-- the words that hold a set for each nonterminal
abbrev pub end_words : ℕ
end_words = set_words * max_nonterminals

-- position j is in the set of nonterminal b
unfoldable pub end_has : List ℕ → ℕ → ℕ → Bool
end_has ends b j = member_at ends (set_words * b) j

-- along a production from position i on, up to j: E is what is known of the nonterminals at i, C the cells of places
module _ (g : Grammar) (w : List ℕ) (E : ℕ → ℕ → Bool) (C : ℕ → ℕ → ℕ → Bool) (i j : ℕ) where
  -- place p faces this symbol; `rest` is the answer for the place behind it, at i too
  unfoldable pub lead_by : ℕ → Symbol → Bool → Bool
  unfolding matches_at through_of
  lead_by p (Token k) rest = matches_at g w i k && C (suc p) (suc i) j
  lead_by p (Nonterminal b) rest = through_of (E b) C (suc p) j (suc i) (length w) || (E b i && rest)
  lead_by p End rest = eqb i j

  -- these symbols follow place p
  unfoldable pub lead_of : ℕ → List Symbol → Bool
  unfolding lead_by
  lead_of p [] = lead_by p End false
  lead_of p (s ∷ l) = lead_by p s (lead_of (suc p) l)

  -- what is left of the production of p
  unfoldable pub lead : ℕ → Bool
  unfolding lead_of suffix
  lead p = lead_of p (suffix g p)

-- some production of nonterminal a derives the note from i up to j
unfoldable pub ends_at : Grammar → List ℕ → ℕ → ℕ → ℕ → Bool
unfolding derives? any_of alternatives
ends_at g w i a j = any_of (λ f. derives? g w f i j) (alternatives g a)

-- the sets hold only ends, and they hold exactly the ends
unfoldable pub SoundEnds : List ℕ → List ℕ → ℕ → List ℕ → Type 0
unfolding end_has ends_at
SoundEnds t w i ends = (a j : ℕ) → a < nonterminals_in t → j < position_count → T (end_has ends a j) → T (ends_at (grammar_in t) w i a j)

unfoldable pub RightEnds : List ℕ → List ℕ → ℕ → List ℕ → Type 0
unfolding end_has ends_at
RightEnds t w i ends = (a j : ℕ) → a < nonterminals_in t → j < position_count → end_has ends a j ≡ ends_at (grammar_in t) w i a j
