-- A nonterminal that stands last in its production leads where it ends: no cell has to be asked.
use mathlib.Core.Path.{◌≡◌, refl, sym, ap, ◌∙◌, subst}
use mathlib.Core.Logic.{⊎_elim}
use mathlib.Core.Bool.{Bool, true, false≢true, ◌&&◌, ◌||◌}
use mathlib.Core.List.{List}
use Prim.Native.Nat.{ℕ, suc, ◌+◌, ◌*◌, ◌≤◌, ◌<◌}
use native.Mathlib.Numerals.{add-one}
use native.Mathlib.Omega.{arith}
use native.Mathlib.Decide.{dec_lt}
use lib.Dec.{T}
use lib.ListN.{length}
use Rattle.base.proofs.Booleans.{clash, and_T, T_and, or-T, T-or-l, T-or-r, same}
use Rattle.base.proofs.Lists.{any_of-T}
use Rattle.grammar.specs.declared.Symbol.{Symbol}
use Rattle.grammar.specs.declared.Symbol.TheVariants.{Token, Nonterminal, End}
use Rattle.grammar.specs.Grammar.{Grammar, facing, alternatives}
use Rattle.grammar.specs.inside.Tables.{grammar_in}
use Rattle.positions.specs.inside.Positions.{position_count, set_words, member}
use Rattle.positions.specs.inside.Words.{set_at}
use Rattle.positions.proofs.WordLaws.{member-set}
use Rattle.derivation.specs.inside.BigSteps.{Der}
use Rattle.derivation.specs.Cells.{derives?}
use Rattle.derivation.proofs.CellLaws.{derives-sound, derives-complete}
use Rattle.derivation.proofs.RunLaws.{der-le, der-in}
use Rattle.cells.specs.inside.Chart.{ChartedFrom}
use Rattle.cells.specs.inside.Through.{through_of}
use Rattle.cells.proofs.ThroughLaws.{through-in, through-out}
use Rattle.ends.specs.inside.Ends.{end_has, ends_at, lead_by, RightEnds}
use Rattle.ends.specs.inside.Row.{Row, EndsRight, cells_in}
use Rattle.ends.proofs.InRange.{row-short, row-call}
use Rattle.chart.specs.inside.Derived.{is_end, Behind, Derived}

end-only : {g : Grammar} {w : List ℕ} {q m j : ℕ} {r : List ℕ} → Der g w q m j r → facing g q ≡ End → m ≡ j
end-only (Der.finish e l) f = refl
end-only (Der.match e d a x) f = clash (cc)
end-only (Der.expand e d x y) f = clash (cc)

module _ {t w : List ℕ} {i : ℕ} {ws : List ℕ} (row : Row t w i ws) (ends : List ℕ) (right : RightEnds t w i ends) (p b : ℕ)
    (h : p < (grammar_in t).size)
    (e : facing (grammar_in t) p ≡ Nonterminal b) (f : facing (grammar_in t) (suc p) ≡ End) (behind : Behind t w ws i p) where
  next : suc p < (grammar_in t).size
  next = omega (arith, row-call row p h e)

  -- the cells of the place behind it
  cell_at : (m j : ℕ) → i ≤ m → m ≤ length w → j < position_count → cells_in t ws (suc p) m j ≡ derives? (grammar_in t) w (suc p) m j
  unfolding ChartedFrom Behind
  cell_at m j a c l = elim (dec_lt i m) [
    | yes k ↦ row.later (suc p) m j next k c l
    | no k ↦ (let z : i ≡ m = omega arith in rw (← z) (behind next j l))
  ]

  cell-only : (m j : ℕ) → i ≤ m → m ≤ length w → j < position_count → T (cells_in t ws (suc p) m j) → m ≡ j
  cell-only m j a c l u = end-only (derives-sound (grammar_in t) w (rw (cell_at m j a c l) at u)).1 f

  cell-own : (m : ℕ) → i ≤ m → m ≤ length w → T (cells_in t ws (suc p) m m)
  cell-own m a c = rw (cell_at m m a c (omega (arith, row-short row))) (derives-complete (grammar_in t) w (Der.finish f c))

  -- where the nonterminal ends is ahead, within the note
  end-range : (j : ℕ) → j < position_count → T (end_has ends b j) → (i ≤ j) × (j ≤ length w)
  unfolding RightEnds ends_at
  end-range j l u =
      let v : T (ends_at (grammar_in t) w i b j) = rw (right b j (row.ready.fits.named p b e) l) at u in
      let (n, g, q, x) = any_of-T _ (alternatives (grammar_in t) b) v in
      let d = (derives-sound (grammar_in t) w x).1 in
      (der-le d, der-in d)

  pub derived-last : {s : List ℕ} → s ≡ set_at ends (set_words * b) → Derived t w ws i ends p s
  unfolding Derived lead_by end_has
  derived-last {s} c j l =
      (ap (λ (s : List ℕ). member s j) c ∙ member-set ends (set_words * b) j l)
      ∙ (same (end_has ends b j) onward to back ∙ ap (λ x. lead_by (grammar_in t) w (end_has ends) (cells_in t ws) i j p x (cells_in t ws (suc p) i j)) (sym e))
    where
      onward : Bool
      onward = through_of (end_has ends b) (cells_in t ws) (suc p) j (suc i) (length w) || (end_has ends b i && cells_in t ws (suc p) i j)

      to : T (end_has ends b j) → T onward
      to u =
          let r = end-range j l u in
          let own = cell-own j r.0 r.1 in
          elim (dec_lt i j) [
            | yes k ↦ T-or-l (through_of (end_has ends b) (cells_in t ws) (suc p) j (suc i) (length w)) (end_has ends b i && cells_in t ws (suc p) i j)
                (through-in (end_has ends b) (cells_in t ws) (suc p) j (suc i) (length w) j k r.1 u own)
            | no k ↦ (
                let z : j ≡ i = omega arith in
                T-or-r (through_of (end_has ends b) (cells_in t ws) (suc p) j (suc i) (length w)) (end_has ends b i && cells_in t ws (suc p) i j)
                (T_and (end_has ends b i) (cells_in t ws (suc p) i j) (subst (λ (m : ℕ). T (end_has ends b m)) z u)
                (subst (λ (m : ℕ). T (cells_in t ws (suc p) m j)) z own)))
          ]

      back : T onward → T (end_has ends b j)
      back u = ⊎_elim later here (or-T (through_of (end_has ends b) (cells_in t ws) (suc p) j (suc i) (length w))
          (end_has ends b i && cells_in t ws (suc p) i j)
          u)
        where
          later : T (through_of (end_has ends b) (cells_in t ws) (suc p) j (suc i) (length w)) → T (end_has ends b j)
          later v =
              let (m, a, d, x, y) = through-out (end_has ends b) (cells_in t ws) (suc p) j (suc i) (length w) v in
              rw (← cell-only m j (omega arith) d l y) x

          here : T (end_has ends b i && cells_in t ws (suc p) i j) → T (end_has ends b j)
          here v =
              let z = and_T (end_has ends b i) (cells_in t ws (suc p) i j) v in
              rw (← cell-only i j (omega arith) row.here l z.1) z.0

end_is : (s : Symbol) → is_end s ≡ true → s ≡ End
end_is End e = refl
end_is (Token k) e = absurd (false≢true e)
end_is (Nonterminal b) e = absurd (false≢true e)

-- as the code has it
pub derived-behind : {t w : List ℕ} {i : ℕ} {ws ends : List ℕ} → EndsRight t w i ws ends → (p b : ℕ) → p < (grammar_in t).size
    → facing (grammar_in t) p ≡ Nonterminal b
    → Behind t w ws i p → {r : Bool} → r ≡ is_end (facing (grammar_in t) (p + 1)) → r ≡ true → {s : List ℕ} → s ≡ set_at ends (set_words * b)
    → Derived t w ws i ends p s
derived-behind {t} {ends = ends} x p b h e behind y z =
    derived-last x.row ends x.right p b h e (rw add-one at (end_is (facing (grammar_in t) (p + 1)) (sym y ∙ z))) behind
