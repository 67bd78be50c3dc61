-- The cell of one place, case by case as the code meets them.
use mathlib.Core.Path.{◌≡◌, refl, sym, ◌∙◌}
use mathlib.Core.Bool.{Bool, true, false, not, ◌&&◌, ◌||◌}
use mathlib.Core.List.{List}
use Prim.Native.Nat.{ℕ, suc, ◌+◌, ◌*◌, ◌≤◌, ◌<◌}
use native.Mathlib.Numerals.{add-one}
use lib.ListN.{length}
use borrow.Author.Tests.{not-true, not-false}
use Rattle.grammar.specs.declared.Symbol.{Symbol}
use Rattle.grammar.specs.declared.Symbol.TheVariants.{Token, Nonterminal, End}
use Rattle.grammar.specs.Grammar.{facing}
use Rattle.grammar.specs.inside.Tables.{grammar_in}
use Rattle.positions.specs.inside.Positions.{position_count, set_words, empty_set, with_of}
use Rattle.positions.specs.inside.Words.{set_at}
use Rattle.positions.proofs.SetLaws.{member-empty, member-with}
use Rattle.cells.specs.inside.Chart.{spot}
use Rattle.cells.specs.inside.Matches.{matches_at}
use Rattle.cells.specs.inside.Through.{through_of, Through}
use Rattle.cells.proofs.Spots.{cell-member}
use Rattle.cells.proofs.ThroughLaws.{through-first}
use Rattle.ends.specs.inside.Ends.{end_has}
use Rattle.ends.specs.inside.Row.{cells_in}
use Rattle.ends.proofs.PlaceLaws.{eqb_comm, by_end, by-other, by_token, by_call, end-through}
use Rattle.chart.specs.inside.Derived.{is_end, Derived}

or_comm : (a b : Bool) → (a || b) ≡ (b || a)
or_comm true true = refl
or_comm true false = refl
or_comm false true = refl
or_comm false false = refl

module _ (t w ws : List ℕ) (i : ℕ) (ends : List ℕ) (p : ℕ) where
  pub derived-end : {s r : List ℕ} → facing (grammar_in t) p ≡ End → i < position_count → s ≡ empty_set → r ≡ with_of s i
      → Derived t w ws i ends p r
  unfolding Derived
  derived-end e k q d j l = rw (d, q, member-with empty_set i j k, member-empty j, eqb_comm j i)
      (sym (by_end (grammar_in t) w (end_has ends) (cells_in t ws) i j p _ e))

  pub derived-other : {k : ℕ} {m : Bool} {r : List ℕ} → facing (grammar_in t) p ≡ Token k → m ≡ matches_at (grammar_in t) w i k → not m ≡ true
      → r ≡ empty_set
      → Derived t w ws i ends p r
  unfolding Derived
  derived-other {k} {m} e q n d j l =
      rw (d, member-empty j) (sym (by-other (grammar_in t) w (end_has ends) (cells_in t ws) i j p _ e (sym q ∙ not-true m n)))

  pub derived-token : {k P : ℕ} {m : Bool} {r : List ℕ} → P ≡ (grammar_in t).size → facing (grammar_in t) p ≡ Token k → m
      ≡ matches_at (grammar_in t) w i k
      → not m ≡ false → r ≡ set_at ws (spot P (p + 1) (i + 1)) → Derived t w ws i ends p r
  unfolding Derived
  derived-token {k} {P} {m} s e q n d j l =
      rw (cell-member (grammar_in t).size ws (p + 1) (i + 1) j (rw s at d) l, add-one p, add-one i)
      (sym (by_token (grammar_in t) w (end_has ends) (cells_in t ws) i j p _ e (sym q ∙ not-false m n)))

  pub derived-call : {b P : ℕ} (s r : List ℕ) → P ≡ (grammar_in t).size → facing (grammar_in t) p ≡ Nonterminal b → i ≤ length w
      → length w < position_count
      → s ≡ set_at ends (set_words * b) → Through P ws (length w) s i (p + 1) r → Derived t w ws i ends p r
  unfolding Derived
  derived-call {b} {P} s r sized e here short c x j l =
      rw add-one at (end-through ends b c (grammar_in t).size ws (length w) i (p + 1) r short (rw sized at x) j l)
      ∙ (through-first (end_has ends b) (cells_in t ws) (suc p) j i (length w) here
      ∙ (or_comm (end_has ends b i && cells_in t ws (suc p) i j) (through_of (end_has ends b) (cells_in t ws) (suc p) j (suc i) (length w))
      ∙ sym (by_call (grammar_in t) w (end_has ends) (cells_in t ws) i j p _ e)))

-- every other symbol is no production's end
pub not_end : (s : Symbol) → ¬ (s ≡ End) → false ≡ is_end s
not_end End n = absurd (n refl)
not_end (Token k) n = refl
not_end (Nonterminal b) n = refl
