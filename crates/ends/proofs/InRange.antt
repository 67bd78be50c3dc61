-- What every function on one position has from its row: each index that it meets is in range.
use mathlib.Core.Path.{◌≡◌, sym, ◌∙◌}
use mathlib.Core.List.{List}
use Prim.Native.Nat.{ℕ, ◌+◌, ◌≤◌, ◌<◌}
use native.Mathlib.Omega.{arith}
use lib.ListN.{length}
use Rattle.base.proofs.Booleans.{clash}
use Rattle.grammar.specs.declared.Symbol.TheVariants.{Token, Nonterminal, End}
use Rattle.grammar.specs.Limits.{max_places, max_nonterminals}
use Rattle.grammar.specs.Grammar.{facing}
use Rattle.grammar.specs.inside.Tables.{grammar_in}
use Rattle.positions.specs.inside.Positions.{position_count}
use Rattle.derivation.specs.Cells.{derives?}
use Rattle.derivation.proofs.CellLaws.{derives-sound}
use Rattle.derivation.proofs.RunLaws.{der-le, der-in}
use Rattle.derivation.proofs.ReadyLaws.{ready-next, ready-named, ready-size}
use Rattle.cells.specs.inside.Chart.{cell_has, Lent, ChartedFrom}
use Rattle.cells.specs.inside.Through.{Ahead}
use Rattle.cells.proofs.Spots.{sized, lent-sized}
use Rattle.ends.specs.inside.Row.{Row}

module _ {t w : List ℕ} {i : ℕ} {ws : List ℕ} (row : Row t w i ws) where
  pub row-short : length w < position_count
  row-short = omega (arith, row.lent.short)

  pub row-position : i < position_count
  row-position = omega (arith, row-short, row.here)

  pub row-places : (grammar_in t).size ≤ max_places
  row-places = ready-size t row.ready

  pub row_named : (p : ℕ) {b : ℕ} → facing (grammar_in t) p ≡ Nonterminal b → b < max_nonterminals
  row_named p {b} e = ready-named t row.ready p b e

  next_place : (p : ℕ) → p < (grammar_in t).size → ¬ (facing (grammar_in t) p ≡ End) → p + 1 < (grammar_in t).size
  next_place p h n = omega (arith, ready-next t row.ready p h n)

  -- behind a token or a call the production goes on
  pub row-token : (p : ℕ) {k : ℕ} → p < (grammar_in t).size → facing (grammar_in t) p ≡ Token k → p + 1 < (grammar_in t).size
  row-token p h e = next_place p h (λ q. clash (cc))

  pub row-call : (p : ℕ) {b : ℕ} → p < (grammar_in t).size → facing (grammar_in t) p ≡ Nonterminal b → p + 1 < (grammar_in t).size
  row-call p h e = next_place p h (λ q. clash (cc))

  -- ---- with the number of places as the code has it
  module _ {P : ℕ} (s : P ≡ (grammar_in t).size) where
    pub row-lent : Lent P (length w) ws
    row-lent = lent-sized s row.lent

    -- the cells of the later positions lead ahead, and no further than the note's end
    pub row-ahead : (q from : ℕ) → q < (grammar_in t).size → i ≤ from → Ahead P ws (length w) from q
    unfolding Ahead ChartedFrom
    row-ahead q from l h m j a b k u =
        let c : cell_has P ws q m j ≡ derives? (grammar_in t) w q m j = sym (sized s ws q m j) ∙ row.later q m j l (omega arith) b k in
        let d = (derives-sound (grammar_in t) w (rw c at u)).1 in
        (der-le d, der-in d)
