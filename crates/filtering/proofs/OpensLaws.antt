-- C1, C2: an open stack reads the rest of the note exactly if the filtered ends lead down it, symbol by symbol; hence the lowest alternative.
use mathlib.Core.Path.{◌≡◌, refl, sym}
use mathlib.Core.Logic.{◌↔◌}
use mathlib.Core.Bool.{Bool, false}
use mathlib.Core.Option.{Option, none, some}
use mathlib.Core.List.{List, [], ◌∷◌, ◌++◌}
use Prim.Native.Nat.{ℕ, suc}
use native.Mathlib.Omega.{arith}
use lib.Dec.{T}
use lib.ListN.{length}
use Rattle.base.specs.Search.{lowest_from}
use Rattle.base.proofs.Booleans.{same}
use Rattle.base.proofs.Lowest.{lowest-same}
use Rattle.grammar.specs.declared.Symbol.TheVariants.{Nonterminal}
use Rattle.grammar.specs.Limits.{end_mark, end_place}
use Rattle.grammar.specs.Grammar.{Grammar, facing, owner, alternatives, first}
use Rattle.grammar.specs.inside.Ordered.{Ordered}
use Rattle.grammar.proofs.GrammarLaws.{admits-self}
use Rattle.derivation.specs.Runs.{Run, Opens, marked}
use Rattle.derivation.specs.Cells.{runs?}
use Rattle.derivation.specs.Machine.{serves?, lowest}
use Rattle.derivation.proofs.RunLaws.{run-token, run_end, run-empty, der+run, run-over_call}
use Rattle.derivation.proofs.CellLaws.{runs-iff}
use Rattle.derivation.proofs.MarkedCells.{length_marked, get-mark}
use Rattle.first_follow.specs.inside.Masks.{Masks, Closed}
use Rattle.filtering.specs.inside.Filtered.{DerF, Ends, EndsBy, PairEnds, Over, token, call, EndsFrom}
use Rattle.filtering.specs.inside.OpenStacks.{Open, frame}
use Rattle.filtering.proofs.FilterLaws.{der_f-der, run-filter, follow-right}

-- ---- the bottom: the end mark stands behind the note
module _ (g : Grammar) (order : Ordered g) (w : List ℕ) where
  pub opens-bottom : (m : ℕ) → Opens g (marked w) (end_place ∷ []) m ↔ (m ≡ length w)
  opens-bottom m = (to, λ q. rw q here)
    where
      here : Opens g (marked w) (end_place ∷ []) (length w)
      here =
          let z : suc (length w) ≡ length (marked w) = sym (length_marked w) in
          let y : Run g (marked w) [] (suc (length w)) (length (marked w)) [] = rw z (Run.done {i = length (marked w)} (omega arith)) in
          ([], Run.match order.marked_end (get-mark w) (admits-self g end_mark) (Run.finish order.end-past y))

      to : Opens g (marked w) (end_place ∷ []) m → m ≡ length w
      to (r, x) =
          let (t, d, a, y) = run-token x order.marked_end in
          let z = run-empty (run_end y order.end-past) in
          omega (arith, length_marked w, z)

-- ---- symbol by symbol
module _ {g : Grammar} {w : List ℕ} where
  -- over any symbol and on
  over-opens : {M : Masks} {p i m : ℕ} {S : List ℕ} → Over g M w p i m → Opens g w (suc p ∷ S) m → Opens g w (p ∷ S) i
  over-opens (token e d t) (s, y) = (s, Run.match e d t y)
  over-opens (call e (b, (f, d, (r, x), h))) (s, y) = (b ∷ (r ++ s), Run.expand e d (der+run (der_f-der x) y))

module _ {g : Grammar} {M : Masks} {w : List ℕ} (order : Ordered g) (c : Closed g M) where
  -- ---- a place at once
  pub opens-place : {q i : ℕ} {S : List ℕ} → Open g (owner g q) S → Opens g w (q ∷ S) i ↔ ((m : ℕ) × Ends g M w q i m × Opens g w S m)
  opens-place {q} {i} {S} o = (to, from)
    where
      to : Opens g w (q ∷ S) i → (m : ℕ) × Ends g M w q i m × Opens g w S m
      to (r, x) = let (m, r₁, r₂, y, z, e) = run-filter order c o x in (m, (r₁, y), (r₂, z))

      from : (m : ℕ) × Ends g M w q i m × Opens g w S m → Opens g w (q ∷ S) i
      from (m, (r, y), (s, z)) = (r ++ s, der+run (der_f-der y) z)

  -- from a set of positions
  pub opens-from : {q : ℕ} {S : List ℕ} (X : ℕ → Type 0) → Open g (owner g q) S
      → ((i : ℕ) × X i × Opens g w (q ∷ S) i) ↔ ((m : ℕ) × EndsFrom g M w X q m × Opens g w S m)
  opens-from {q} {S} X o = (to, from)
    where
      to : (i : ℕ) × X i × Opens g w (q ∷ S) i → (m : ℕ) × EndsFrom g M w X q m × Opens g w S m
      to (i, x, y) = let (m, e, z) = (opens-place o).0 y in (m, (i, x, e), z)

      from : (m : ℕ) × EndsFrom g M w X q m × Opens g w S m → (i : ℕ) × X i × Opens g w (q ∷ S) i
      from (m, (i, x, e), z) = (i, x, (opens-place o).1 (m, e, z))

  -- ---- a nonterminal
  -- an alternative that serves, by one of its ends
  pub opens_by : {i : ℕ} {S : List ℕ} (a b f : ℕ) → Open g a S → first g a b ≡ some f
      → Opens g w (f ∷ S) i ↔ ((m : ℕ) × EndsBy g M w a i b m × Opens g w S m)
  opens_by {i} {S} a b f o d = (λ x. to ((opens-place (rw (order.owns a b f d) o)).0 x), from)
    where
      to : (m : ℕ) × Ends g M w f i m × Opens g w S m → (m : ℕ) × EndsBy g M w a i b m × Opens g w S m
      to (m, x, (s, y)) = (m, (f, d, x, follow-right order c o y), (s, y))

      from : (m : ℕ) × EndsBy g M w a i b m × Opens g w S m → Opens g w (f ∷ S) i
      from (m, (f', d', (r, x), h), (s, y)) = let z : f' ≡ f = cc in rw z at (f'-opens m f' r x s y)
        where
          f'-opens : (m f' : ℕ) (r : List ℕ) → DerF g M w f' i m r → (s : List ℕ) → Run g w S m (length w) s → Opens g w (f' ∷ S) i
          f'-opens m f' r x s y = (r ++ s, der+run (der_f-der x) y)

  pub opens-call : {p i : ℕ} {S : List ℕ} (a : ℕ) → Open g (owner g p) S → facing g p ≡ Nonterminal a
      → Opens g w (p ∷ S) i ↔ ((m : ℕ) × PairEnds g M w a i m × Opens g w (suc p ∷ S) m)
  opens-call {p} {i} {S} a o e = (to, from)
    where
      to : Opens g w (p ∷ S) i → (m : ℕ) × PairEnds g M w a i m × Opens g w (suc p ∷ S) m
      to (r, x) =
          let (b, s, f, d, y, q) = run-over_call x e in
          let (m, z, v) = (opens_by a b f (frame e o) d).0 (s, y) in
          (m, (b, z), v)

      from : (m : ℕ) × PairEnds g M w a i m × Opens g w (suc p ∷ S) m → Opens g w (p ∷ S) i
      from (m, x, y) = over-opens (call e x) y

-- ---- as Booleans
-- C1: whatever decides whether a stack opens is `runs?`
pub opens-is : (g : Grammar) (w : List ℕ) (S : List ℕ) (i : ℕ) (o : Bool) → (T o ↔ Opens g w S i) → o ≡ runs? g w S i
opens-is g w S i o h = same o (runs? g w S i) (λ t. (runs-iff g w S i).1 (h.0 t)) (λ t. h.1 ((runs-iff g w S i).0 t))

-- C2: the lowest of the alternatives that were found to open is the plain chooser's
pub lowest-opens : (g : Grammar) (w : List ℕ) (S : List ℕ) (a i : ℕ) (o : ℕ → Bool) → ((b f : ℕ) → first g a b ≡ some f → T (o b) ↔ Opens g w (f ∷ S) i)
    → ((b : ℕ) → first g a b ≡ none → o b ≡ false) → lowest_from o 0 (suc (length (alternatives g a))) ≡ lowest g w S a i
unfolding lowest serves?
lowest-opens g w S a i o h n = lowest-same o (λ b. serves? g w S i (first g a b)) 0 (suc (length (alternatives g a))) (λ b _ _. go b (first g a b) refl)
  where
    go : (b : ℕ) (x : Option ℕ) → first g a b ≡ x → o b ≡ serves? g w S i x
    go b none e = n b e
    go b (some f) e = opens-is g w (f ∷ S) i (o b) (h b f e)
