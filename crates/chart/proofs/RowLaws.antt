-- Writing the cells of one position, the last place first; and all positions, the last first.
use mathlib.Core.Path.{◌≡◌, refl, ◌∙◌}
use mathlib.Core.Logic.{⊎_elim}
use mathlib.Core.Bool.{Bool}
use mathlib.Core.List.{List}
use Prim.Native.Nat.{ℕ, suc, ◌+◌, ◌-◌, ◌≤◌, ◌<◌}
use native.Mathlib.Omega.{arith}
use lib.ListN.{length}
use Rattle.base.proofs.Bits.{same?}
use Rattle.base.proofs.Booleans.{clash}
use Rattle.grammar.specs.declared.Symbol.{Symbol}
use Rattle.grammar.specs.declared.Symbol.TheVariants.{Token, Nonterminal, End}
use Rattle.grammar.specs.Grammar.{facing}
use Rattle.grammar.specs.inside.Tables.{grammar_in, nonterminals_in}
use Rattle.positions.specs.inside.Positions.{position_count}
use Rattle.positions.specs.inside.Words.{put_at}
use Rattle.positions.proofs.WordLaws.{length-put}
use Rattle.derivation.specs.Cells.{derives?}
use Rattle.derivation.specs.inside.Ready.{Ready}
use Rattle.derivation.proofs.ReadyLaws.{ready-next}
use Rattle.cells.specs.inside.Chart.{spot, Lent, ChartedFrom, KeptBehind, Filled}
use Rattle.cells.proofs.Spots.{spot_in, lent-kept, put-here, put-beside, put-before}
use Rattle.ends.specs.inside.Ends.{end_words, end_has, lead_by, RightEnds}
use Rattle.ends.specs.inside.Row.{Row, EndsRight, cells_in}
use Rattle.ends.proofs.LeadLaws.{cell-exact}
use Rattle.ends.proofs.LookLaws.{row-known}
use Rattle.chart.specs.inside.Derived.{CellsSettled, Derived, Behind}

-- the cells of position i are right from place p on, and so are those of the later positions
pub record Written (t w : List ℕ) (i p : ℕ) (ws : List ℕ) : Type 0 where
  pub row : Row t w i ws
  pub right : (q j : ℕ) → p ≤ q → q < (grammar_in t).size → j < position_count → cells_in t ws q i j ≡ derives? (grammar_in t) w q i j

module _ (t w : List ℕ) (i : ℕ) where
  pub written_none : (ws : List ℕ) {p : ℕ} → p ≡ (grammar_in t).size → Row t w i ws → Written t w i p ws
  written_none ws e h = record { row = h; right = λ q j m n l. absurd (omega arith) }

  module _ (p : ℕ) (ws ends s : List ℕ) (inv : Written t w i (suc p) ws) (h : p < (grammar_in t).size) (exact : RightEnds t w i ends)
      (derived : Derived t w ws i ends p s) where
    abbrev after : List ℕ
    after = put_at ws (spot (grammar_in t).size p i) s

    abbrev rest : Bool → ℕ → Bool
    rest b j = lead_by (grammar_in t) w (end_has ends) (cells_in t ws) i j p (facing (grammar_in t) p) b

    row_kept : Row t w i after
    unfolding ChartedFrom
    row_kept =
        let old = inv.row in
        record {
          ready = old.ready;
          lent = lent-kept (length-put ws (spot (grammar_in t).size p i) s) old.lent;
          here = old.here;
          later = λ q k j m n o l. put-before (grammar_in t).size ws p i s j l q k h n ∙ old.later q k j m n o l;
        }

    -- the cell of the place behind p is right, or p ends its production
    rest-right : (j : ℕ) → j < position_count → rest (cells_in t ws (suc p) i j) j ≡ rest (derives? (grammar_in t) w (suc p) i j) j
    unfolding lead_by
    rest-right j l = go (facing (grammar_in t) p) refl
      where
        on : ¬ (facing (grammar_in t) p ≡ End) → cells_in t ws (suc p) i j ≡ derives? (grammar_in t) w (suc p) i j
        on n = inv.right (suc p) j (omega arith) (ready-next t inv.row.ready p h n) l

        by : Symbol → Bool → Bool
        by x b = lead_by (grammar_in t) w (end_has ends) (cells_in t ws) i j p x b

        go : (x : Symbol) → facing (grammar_in t) p ≡ x → by x (cells_in t ws (suc p) i j) ≡ by x (derives? (grammar_in t) w (suc p) i j)
        go (Token k) e = refl
        go (Nonterminal b) e = rw (on (λ q. clash (cc)))
        go End e = refl

    here-right : (j : ℕ) → j < position_count → cells_in t after p i j ≡ derives? (grammar_in t) w p i j
    unfolding Derived RightEnds
    here-right j l =
        put-here (grammar_in t).size ws p i s j l (spot_in (grammar_in t).size (length w) p i ws inv.row.lent h inv.row.here)
        ∙ (derived j l
        ∙ (rest-right j l
        ∙ cell-exact (grammar_in t) (nonterminals_in t) w (cells_in t ws) i (row-known t w i ws inv.row) (end_has ends) exact inv.row.here p j h l))

    pub written-more : Written t w i p after
    written-more =
        record {
          row = row_kept;
          right =
              λ q j m n l. ⊎_elim (λ e. rw e (here-right j l)) (λ e. put-beside (grammar_in t).size ws p i s j l q e ∙ inv.right q j (omega arith) n l)
              (same? q p);
        }

  -- the same as the code meets it: p counts down
  pub written_on : (p : ℕ) (ws ends s : List ℕ) {P : ℕ} {us : List ℕ} → P ≡ (grammar_in t).size → 0 < p → p ≤ P → Written t w i p ws
      → RightEnds t w i ends
      → Derived t w ws i ends (p - 1) s → us ≡ put_at ws (spot P (p - 1) i) s → Written t w i (p - 1) us
  written_on p ws ends s size h k inv exact derived e =
      let q : suc (p - 1) ≡ p = omega arith in
      rw (e, size) (written-more (p - 1) ws ends s (rw q inv) (omega arith) exact derived)

  pub written-ended : (p : ℕ) (ws ends : List ℕ) → length ends ≡ end_words → RightEnds t w i ends → Written t w i p ws → EndsRight t w i ws ends
  written-ended p ws ends e x inv = record { row = inv.row; long = e; right = x }

  -- the cell behind the next one to be written is right
  pub written_behind : (p : ℕ) (ws : List ℕ) → 0 < p → Written t w i p ws → Behind t w ws i (p - 1)
  unfolding Behind
  written_behind p ws h x l j k = x.right (suc (p - 1)) j (omega arith) l k

  charted-now : (p : ℕ) (ws : List ℕ) → p ≡ 0 → Written t w i p ws → ChartedFrom t w ws i
  unfolding ChartedFrom
  charted-now p ws z inv q k j h m n l = ⊎_elim here later (same? k i)
    where
      here : k ≡ i → cells_in t ws q k j ≡ derives? (grammar_in t) w q k j
      here e = rw e (inv.right q j (omega arith) h l)

      later : (k ≡ i → ⊥) → cells_in t ws q k j ≡ derives? (grammar_in t) w q k j
      later e = inv.row.later q k j h (omega arith) n l

  pub written_all : (p : ℕ) (ws₀ ws : List ℕ) {P : ℕ} → P ≡ (grammar_in t).size → p ≡ 0 → Written t w i p ws
      → KeptBehind P (length w) ws₀ ws
      → CellsSettled t w i ws₀ ws
  written_all p ws₀ ws size z inv b = record { charted = charted-now p ws z inv; behind = rw size at b }

-- behind the note's end there is no cell
pub charted-none : (t w ws : List ℕ) (i : ℕ) → length w < i → ChartedFrom t w ws i
unfolding ChartedFrom
charted-none t w ws i e q k j h m n l = absurd (omega arith)

-- the next position to settle
pub row_next : (t w : List ℕ) (i : ℕ) (ws us : List ℕ) → Ready t → Lent (grammar_in t).size (length w) ws → length us ≡ length ws → 0 < i
    → i ≤ length w + 1
    → ChartedFrom t w us i → Row t w (i - 1) us
row_next t w i ws us r n e h l c =
    let q : suc (i - 1) ≡ i = omega arith in
    record { ready = r; lent = lent-kept e n; here = omega arith; later = rw q c }

pub filled : (t w ws us : List ℕ) (i : ℕ) → i ≡ 0 → ChartedFrom t w us i → length us ≡ length ws
    → KeptBehind (grammar_in t).size (length w) ws us
    → Filled t w ws us
filled t w ws us i z c e b = record { charted = rw z at c; kept = e; behind = b.word }
