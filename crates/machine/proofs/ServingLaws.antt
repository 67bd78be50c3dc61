-- What the code's sets say: a frame's set is where it and all below derive the rest, and an alternative serves exactly if it can end there.
use mathlib.Core.Path.{◌≡◌, refl, sym, ap, ◌∙◌}
use mathlib.Core.Bool.{Bool, ◌&&◌, ◌||◌}
use mathlib.Core.Option.{Option, none, some}
use mathlib.Core.List.{List, [], ◌∷◌}
use Prim.Native.Nat.{ℕ, suc, ◌+◌, ◌-◌, ◌*◌, ◌≤◌, ◌<◌}
use native.Mathlib.Omega.{arith}
use lib.Dec.{T, eqb, eqb→eq, eqb_refl}
use lib.ListN.{length}
use Rattle.base.proofs.Booleans.{clash, T→true, and_T, T_and, same}
use Rattle.base.proofs.Lists.{any_of-T, T-any_of, up_from-get}
use Rattle.base.proofs.Lowest.{lowest-same}
use Rattle.grammar.specs.declared.Symbol.TheVariants.{Nonterminal}
use Rattle.grammar.specs.Limits.{end_place, end_mark}
use Rattle.grammar.specs.Grammar.{facing, alternatives, first}
use Rattle.grammar.specs.inside.Tables.{grammar_in}
use Rattle.grammar.proofs.GrammarLaws.{first_pos, admits-self}
use Rattle.positions.specs.inside.Positions.{member, empty_set, with_of, meets_of}
use Rattle.positions.specs.inside.Words.{set_at}
use Rattle.positions.proofs.SetLaws.{Fit, meets-out, meets-in, member-with, member-empty}
use Rattle.positions.proofs.WordLaws.{member-set, fit_at}
use Rattle.derivation.specs.Runs.{Run, marked}
use Rattle.derivation.specs.Cells.{cuts, derives?, runs?}
use Rattle.derivation.specs.Machine.{serves?, lowest}
use Rattle.derivation.specs.Space.{max_tokens}
use Rattle.derivation.specs.inside.Frames.{frame_words, returns_of}
use Rattle.derivation.specs.inside.Ready.{Ready}
use Rattle.derivation.proofs.CellLaws.{derives-sound, runs-iff}
use Rattle.derivation.proofs.RunLaws.{der-le, der-in, run-token, run_end, run-empty}
use Rattle.derivation.proofs.ReadyLaws.{ready-first, ready-next, ready_call, ready-ordered}
use Rattle.derivation.proofs.MarkedCells.{length_marked, get-mark, derives-inside, derives-marked}
use Rattle.cells.specs.inside.Chart.{spot, cell_has, ChartedFrom, Charted, EndsOf}
use Rattle.machine.specs.inside.Frames.{frame_has, EveryFrame, Good, Serving}
use Rattle.machine.specs.inside.Choice.{Leading, ends_in, or_zero, lowest_in}
use Rattle.machine.proofs.GoodLaws.{derives-call}

-- ---- the end place
module _ (t : List ℕ) (h : Ready t) (w : List ℕ) (short : length w ≤ max_tokens) where
  -- the end place derives the rest only from the note's end
  ends_there : (m : ℕ) {r : List ℕ} → Run (grammar_in t) (marked w) (end_place ∷ []) m (length (marked w)) r → m ≡ length w
  ends_there m x =
      let o = ready-ordered t h in
      let (u, e, a, y) = run-token x o.marked_end in
      let z = run-empty (run_end y o.end-past) in
      omega (arith, length_marked w, z)

  pub end-runs : (m : ℕ) → m ≤ length w → member (with_of empty_set (length w)) m ≡ runs? (grammar_in t) (marked w) (end_place ∷ []) m
  unfolding runs?
  end-runs m k =
      (member-with empty_set (length w) m (omega arith) ∙ ap (λ (b : Bool). b || eqb m (length w)) (member-empty m))
      ∙ same (eqb m (length w)) (runs? (grammar_in t) (marked w) (end_place ∷ []) m) to from
    where
      whole : Run (grammar_in t) (marked w) (end_place ∷ []) (length w) (suc (length w)) []
      whole =
          let o = ready-ordered t h in
          Run.match o.marked_end (get-mark w) (admits-self (grammar_in t) end_mark)
          (Run.finish o.end-past (Run.done {i = suc (length w)} (omega (arith, length_marked w))))

      to : T (eqb m (length w)) → T (runs? (grammar_in t) (marked w) (end_place ∷ []) m)
      to x =
          let z = eqb→eq m (length w) x in
          rw z ((runs-iff (grammar_in t) (marked w) (end_place ∷ []) (length w)).1 ([], rw (length_marked w) whole))

      from : T (runs? (grammar_in t) (marked w) (end_place ∷ []) m) → T (eqb m (length w))
      from x = let z = ends_there m ((runs-iff (grammar_in t) (marked w) (end_place ∷ []) m).0 x).1 in rw z (eqb_refl (length w))

module _ (t : List ℕ) (h : Ready t) (w ws : List ℕ) (charted : Charted t w ws) (short : length w ≤ max_tokens) (fit : Fit ws) where
  -- ---- a cell as the definitions have it, over the note with its mark
  cell-is : (p i j : ℕ) → p < (grammar_in t).size → i ≤ length w → j ≤ length w
      → member (set_at ws (spot (grammar_in t).size p i)) j ≡ derives? (grammar_in t) (marked w) p i j
  unfolding ChartedFrom cell_has
  cell-is p i j l m k =
      member-set ws (spot (grammar_in t).size p i) j (omega arith) ∙ (charted p i j l (omega arith) m (omega arith) ∙ derives-marked t h w p i j k)

  pub cell_holds : (p i j : ℕ) → p < (grammar_in t).size → i ≤ length w → T (derives? (grammar_in t) (marked w) p i j)
      → T (cell_has (grammar_in t).size ws p i j)
  unfolding ChartedFrom
  cell_holds p i j l m x =
      let k = derives-inside t h w p i j l m x in
      rw (charted p i j l (omega arith) m (omega arith), derives-marked t h w p i j k) x

  -- so sets meet a cell where derivations of its place end in them
  meet-out : (p i : ℕ) (s : List ℕ) → p < (grammar_in t).size → i ≤ length w → T (meets_of (set_at ws (spot (grammar_in t).size p i)) s)
      → (j : ℕ) × (j ≤ length w) × T (derives? (grammar_in t) (marked w) p i j) × T (member s j)
  unfolding ChartedFrom cell_has
  meet-out p i s l m x =
      let (j, k, a, b) = meets-out (set_at ws (spot (grammar_in t).size p i)) s (fit_at ws (spot (grammar_in t).size p i) fit) x in
      let c : T (derives? (grammar_in t) w p i j)
      = rw (sym (charted p i j l (omega arith) m k)) (rw (member-set ws (spot (grammar_in t).size p i) j k) at a) in
      let e = der-in (derives-sound (grammar_in t) w c).1 in
      (j, e, rw (sym (derives-marked t h w p i j e)) c, b)

  meet-in : (p i j : ℕ) (s : List ℕ) → p < (grammar_in t).size → i ≤ length w → T (derives? (grammar_in t) (marked w) p i j) → T (member s j)
      → T (meets_of (set_at ws (spot (grammar_in t).size p i)) s)
  meet-in p i j s l m x y =
      let k = derives-inside t h w p i j l m x in
      meets-in (set_at ws (spot (grammar_in t).size p i)) s j (omega arith) (rw (cell-is p i j l m k) x) y

  -- ---- runs of a place over a stack, by where the place ends
  run_out : (p i : ℕ) (S : List ℕ) → T (runs? (grammar_in t) (marked w) (p ∷ S) i)
      → (j : ℕ) × T (derives? (grammar_in t) (marked w) p i j) × T (runs? (grammar_in t) (marked w) S j)
  unfolding runs?
  run_out p i S x =
      let (n, j, e, y) = any_of-T _ (cuts i (length (marked w))) x in
      let z = and_T (derives? (grammar_in t) (marked w) p i j) (runs? (grammar_in t) (marked w) S j) y in
      (j, z.0, z.1)

  run_in : (p i j : ℕ) (S : List ℕ) → T (derives? (grammar_in t) (marked w) p i j) → T (runs? (grammar_in t) (marked w) S j)
      → T (runs? (grammar_in t) (marked w) (p ∷ S) i)
  unfolding runs?
  run_in p i j S x y =
      let d = (derives-sound (grammar_in t) (marked w) x).1 in
      let a = der-le d in
      let b = der-in d in
      T-any_of (λ m. derives? (grammar_in t) (marked w) p i m && runs? (grammar_in t) (marked w) S m) (cuts i (length (marked w))) (j - i)
      (up_from-get (suc (length (marked w)) - i) i j a (omega arith))
      (T_and (derives? (grammar_in t) (marked w) p i j) (runs? (grammar_in t) (marked w) S j) x y)

  -- a place over a stack derives the rest exactly if it can end in a set that is right there
  pub meets-runs : (q m : ℕ) (rest S : List ℕ) → q < (grammar_in t).size → m ≤ length w
      → ((j : ℕ) → j ≤ length w → T (derives? (grammar_in t) (marked w) q m j) → member rest j ≡ runs? (grammar_in t) (marked w) S j)
      → meets_of (set_at ws (spot (grammar_in t).size q m)) rest ≡ runs? (grammar_in t) (marked w) (q ∷ S) m
  meets-runs q m rest S l k below = same (meets_of (set_at ws (spot (grammar_in t).size q m)) rest) (runs? (grammar_in t) (marked w) (q ∷ S) m) to from
    where
      to : T (meets_of (set_at ws (spot (grammar_in t).size q m)) rest) → T (runs? (grammar_in t) (marked w) (q ∷ S) m)
      to x = let (j, n, y, z) = meet-out q m rest l k x in run_in q m j S y (rw (sym (below j n y)) z)

      from : T (runs? (grammar_in t) (marked w) (q ∷ S) m) → T (meets_of (set_at ws (spot (grammar_in t).size q m)) rest)
      from x = let (j, y, z) = run_out q m S x in meet-in q m j rest l k y (rw (below j (derives-inside t h w q m j l k y) y) z)

  -- ---- an alternative serves exactly if it can end in a set that is right
  serves-is : (S : List ℕ) (q a i b : ℕ) (s : List ℕ) → i ≤ length w → Serving (grammar_in t) (marked w) S q a i s
      → ends_in (grammar_in t).size ws i s (first (grammar_in t) a b) ≡ serves? (grammar_in t) (marked w) (q ∷ S) i (first (grammar_in t) a b)
  unfolding Serving ends_in serves?
  serves-is S q a i b s l right = go (first (grammar_in t) a b) refl
    where
      go : (o : Option ℕ) → first (grammar_in t) a b ≡ o → ends_in (grammar_in t).size ws i s o ≡ serves? (grammar_in t) (marked w) (q ∷ S) i o
      go none e = refl
      go (some f) e = meets-runs f i s (q ∷ S) (ready-first t h a b f e) l (λ j _ y. right b f j e y)

  -- so the code's choice is the plain chooser's
  pub lowest-is : (S : List ℕ) (q a i : ℕ) (s : List ℕ) → i ≤ length w → Serving (grammar_in t) (marked w) S q a i s
      → lowest_in t ws a i s ≡ or_zero (lowest (grammar_in t) (marked w) (q ∷ S) a i)
  unfolding lowest_in lowest
  lowest-is S q a i s l right =
      ap or_zero (lowest-same (λ b. ends_in (grammar_in t).size ws i s (first (grammar_in t) a b))
      (λ b. serves? (grammar_in t) (marked w) (q ∷ S) i (first (grammar_in t) a b))
      0 (suc (length (alternatives (grammar_in t) a))) (λ b _ _. serves-is S q a i b s l right))

  -- ---- the sets that the code makes are right: of the end place, and of a return place over frames
  pub serving-end : (i : ℕ) → i ≤ length w → Serving (grammar_in t) (marked w) [] end_place 0 i (with_of empty_set (length w))
  unfolding Serving
  serving-end i l b f m e x = end-runs t h w short m (derives-inside t h w f i m (ready-first t h 0 b f e) l x)

  pub serving-over : (ends rest r : List ℕ) (base d p a i : ℕ) → i ≤ length w → facing (grammar_in t) p ≡ Nonterminal a
      → Good (grammar_in t) (marked w) ws base EveryFrame (suc d) p i → EndsOf t ws a i ends → rest ≡ set_at ws (base + frame_words * d + 1)
      → Leading (grammar_in t).size ws (length w) ends (suc p) rest r → Serving (grammar_in t) (marked w) (returns_of ws base (suc d)) (suc p) a i r
  unfolding Serving Good EndsOf Leading frame_has
  serving-over ends rest r base d p a i l e good ending q leading b f m c x =
      leading m inside ∙ rw (T→true (member ends m) held) (meets-runs (suc p) m rest (returns_of ws base (suc d)) next inside below)
    where
      next : suc p < (grammar_in t).size
      next = ready-next t h p (ready_call t h p a e) (λ z. clash (cc))

      inside : m ≤ length w
      inside = derives-inside t h w f i m (ready-first t h a b f c) l x

      -- the frame below, where p's production can end
      below : (j : ℕ) → j ≤ length w → T (derives? (grammar_in t) (marked w) (suc p) m j)
          → member rest j ≡ runs? (grammar_in t) (marked w) (returns_of ws base (suc d)) j
      below j k y =
          ap (λ (s : List ℕ). member s j) q ∙ (member-set ws (base + frame_words * d + 1) j (omega arith)
          ∙ (good j (derives-call (grammar_in t) (marked w) base p i m j b e c x y)).0 tt)

      held : T (member ends m)
      held =
          let (n, o) = first_pos (grammar_in t) a b f c in
          rw (ending m (omega (arith, inside)))
          (T-any_of (λ f. cell_has (grammar_in t).size ws f i m) (alternatives (grammar_in t) a) n o (cell_holds f i m (ready-first t h a b f c) l x))
