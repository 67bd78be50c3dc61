-- The table of derivations is right: rounds find exactly the cells that have a derivation, whatever the grammar value and the note; and whatever
-- is sound and closed under a round is the table.
use mathlib.Core.Path.{◌≡◌, refl}
use mathlib.Core.Logic.{◌↔◌, ◌⊎◌, inl, inr}
use mathlib.Core.Bool.{Bool, ◌&&◌}
use mathlib.Core.Option.{Option, none, some}
use mathlib.Core.List.{List, [], ◌∷◌, ◌++◌, Memᴰ}
use Prim.Native.Nat.{ℕ, zero, suc, ◌-◌, ◌≤◌}
use native.Mathlib.Omega.{arith}
use lib.Dec.{T, eqb→eq, eqb_refl, leb, leb→le, le→leb}
use lib.ListN.{length, get_elem?}
use Rattle.base.specs.Rounds.{rounds, any_of}
use Rattle.base.proofs.Booleans.{clash, and_T, T_and}
use Rattle.base.proofs.Lists.{Found, any_of-T, T-any_of, get-up_from, up_from-get, get-below}
use Rattle.base.proofs.Fixpoint.{Within, settle}
use Rattle.grammar.specs.declared.Symbol.{Symbol}
use Rattle.grammar.specs.declared.Symbol.TheVariants.{Token, Nonterminal, End}
use Rattle.grammar.specs.Grammar.{Grammar, facing, admits, alternatives, first}
use Rattle.grammar.proofs.GrammarLaws.{faces-place}
use Rattle.derivation.specs.Runs.{Run, Opens}
use Rattle.derivation.specs.inside.BigSteps.{Der, Ders, none, more, DerivesBy}
use Rattle.derivation.specs.Cells.{Cell, cell, cuts, by_token, by_cut, by_symbol, cell_round, cell_count, derives?, runs?}
use Rattle.derivation.proofs.RunLaws.{der-le, der-in, run→ders, der+run}
use Rattle.derivation.proofs.CellGrid.{cells, length-cells, cells_in, Inside, inside?}

-- what a round says, in facts: the one type in which its Booleans are taken apart and put together
data Way (g : Grammar) (w : List ℕ) (X : Cell → Bool) (p i j : ℕ) : Type 0 where
  end : facing g p ≡ End → i ≡ j → Way g w X p i j
  token : {k t : ℕ} → facing g p ≡ Token k → get_elem? w i ≡ some t → T (admits g k t) → T (X (cell (suc p) (suc i) j)) → Way g w X p i j
  call : {a f m : ℕ} (b : ℕ) → facing g p ≡ Nonterminal a → first g a b ≡ some f → i ≤ m → m ≤ j → T (X (cell f i m))
      → T (X (cell (suc p) m j))
      → Way g w X p i j

module _ (g : Grammar) (w : List ℕ) (X : Cell → Bool) (p i j : ℕ) where
  cut_in : (f m : ℕ) → i ≤ m → m ≤ j → T (X (cell f i m)) → T (X (cell (suc p) m j)) → T (any_of (by_cut g w X p i j f) (cuts i j))
  unfolding by_cut
  cut_in f m l k x y =
      T-any_of (by_cut g w X p i j f) (cuts i j) (m - i) (up_from-get (suc j - i) i m l (omega arith)) (T_and (X (cell f i m)) (X (cell (suc p) m j)) x y)

  by_in : Way g w X p i j → T (by_symbol g w X p i j (facing g p))
  unfolding by_symbol
  by_in (end e q) = rw (e, q) (eqb_refl j)
  by_in (token {k = k} {t = t} e d a x) = rw (e, d) (T_and (admits g k t) (X (cell (suc p) (suc i) j)) a x)
  by_in (call {a = a} zero e d l k x y) = clash (cc)
  by_in (call {a = a} {f = f} {m = m} (suc b) e d l k x y) =
      rw e (T-any_of (λ f. any_of (by_cut g w X p i j f) (cuts i j)) (alternatives g a) b d (cut_in f m l k x y))

  way_in : j ≤ length w → Way g w X p i j → T (cell_round g w X (cell p i j))
  unfolding cell_round
  way_in h x = T_and (leb j (length w)) (by_symbol g w X p i j (facing g p)) (le→leb j (length w) h) (by_in x)

  way-token : (k : ℕ) → facing g p ≡ Token k → (o : Option ℕ) → get_elem? w i ≡ o → T (by_token g w X p i j k o) → Way g w X p i j
  unfolding by_token
  way-token k e none d t = absurd t
  way-token k e (some u) d t = let h = and_T (admits g k u) (X (cell (suc p) (suc i) j)) t in token e d h.0 h.1

  way-call : (a : ℕ) → facing g p ≡ Nonterminal a → Found (λ f. any_of (by_cut g w X p i j f) (cuts i j)) (alternatives g a) → Way g w X p i j
  unfolding by_cut
  way-call a e (b, f, d, t) =
      let (n, m, q, s) = any_of-T (by_cut g w X p i j f) (cuts i j) t in
      let h = and_T (X (cell f i m)) (X (cell (suc p) m j)) s in
      let l = get-up_from (suc j - i) i n q in
      call (suc b) e d l.0 (omega arith) h.0 h.1

  way_out : T (cell_round g w X (cell p i j)) → (j ≤ length w) × Way g w X p i j
  unfolding cell_round
  way_out t =
      let h = and_T (leb j (length w)) (by_symbol g w X p i j (facing g p)) t in (leb→le j (length w) h.0, go (facing g p) refl h.1)
    where
      go : (s : Symbol) → facing g p ≡ s → T (by_symbol g w X p i j s) → Way g w X p i j
      go (Token k) e t = way-token k e (get_elem? w i) refl t
      go (Nonterminal a) e t = way-call a e (any_of-T _ (alternatives g a) t)
      go End e t = end e (eqb→eq i j t)

-- places that derivations from them never leave
pub record Kept (g : Grammar) (D : ℕ → Type 0) : Type 0 where
  pub next : (p : ℕ) → D p → ¬ (facing g p ≡ End) → D (suc p)
  pub starts : (a b f : ℕ) → first g a b ≡ some f → D f

module _ (g : Grammar) (w : List ℕ) where
  -- every cell of X has a derivation
  abbrev pub SoundCells : (Cell → Bool) → Type 0
  SoundCells X = (c : Cell) → T (X c) → DerivesBy g w c.place c.from c.upto

  -- ---- the round as an operator on sets of cells
  pub round_mono : (X Y : Cell → Bool) → Within X Y → Within (cell_round g w X) (cell_round g w Y)
  round_mono X Y h c t = let (l, x) = way_out g w X c.place c.from c.upto t in way_in g w Y c.place c.from c.upto l (go x)
    where
      go : Way g w X c.place c.from c.upto → Way g w Y c.place c.from c.upto
      go (end e q) = end e q
      go (token e d a x) = token e d a (h _ x)
      go (call b e d l k x y) = call b e d l k (h _ x) (h _ y)

  -- a cell that stands in no table depends on no other
  alone : (c : Cell) → ¬ Inside (length g.places) (length w) c → (X Y : Cell → Bool) → T (cell_round g w X c) → T (cell_round g w Y c)
  alone c out X Y t = let (l, x) = way_out g w X c.place c.from c.upto t in way_in g w Y c.place c.from c.upto l (go l x)
    where
      go : c.upto ≤ length w → Way g w X c.place c.from c.upto → Way g w Y c.place c.from c.upto
      go l (end e q) = end e q
      go l (token e d a x) =
          let hp = faces-place g c.place (λ q. clash (cc)) in
          let hi = get-below w c.from d in
          absurd (out (record { place_in = hp; from_in = omega arith; upto-in = l }))
      go l (call b e d k k' x y) =
          let hp = faces-place g c.place (λ q. clash (cc)) in
          absurd (out (record { place_in = hp; from_in = omega arith; upto-in = l }))

  settled : (c : Cell) → Memᴰ c (cells (length g.places) (length w))
      ⊎ ((X Y : Cell → Bool) → T (cell_round g w X c) → T (cell_round g w Y c))
  settled c = go (inside? (length g.places) (length w) c)
    where
      go : Dec (Inside (length g.places) (length w) c)
          → Memᴰ c (cells (length g.places) (length w)) ⊎ ((X Y : Cell → Bool) → T (cell_round g w X c) → T (cell_round g w Y c))
      go (yes h) = inl (cells_in (length g.places) (length w) c h)
      go (no h) = inr (alone c h)

  -- the table as a set of cells
  abbrev pub table_of : Cell → Bool
  table_of c = derives? g w c.place c.from c.upto

  pub table-closed : Within (cell_round g w table_of) table_of
  unfolding derives?
  table-closed = rw length-cells at (settle (cell_round g w) round_mono (cells (length g.places) (length w)) settled)

  -- ---- sound: what a round adds to sound cells is sound
  pub cells-add : (X : Cell → Bool) → SoundCells X → SoundCells (cell_round g w X)
  cells-add X rec c t = let (l, x) = way_out g w X c.place c.from c.upto t in go l x
    where
      go : c.upto ≤ length w → Way g w X c.place c.from c.upto → DerivesBy g w c.place c.from c.upto
      go l (end e q) = ([], rw (← q) (Der.finish {i = c.from} e (rw q l)))
      go l (token e d a x) = let (r, h) = rec _ x in (r, Der.match e d a h)
      go l (call b e d k k' x y) = let (r, h) = rec _ x in let (r', h') = rec _ y in (b ∷ (r ++ r'), Der.expand e d h h')

  rounds-sound : (k : ℕ) → SoundCells (rounds (cell_round g w) k)
  unfolding rounds
  rounds-sound zero c t = absurd t
  rounds-sound (suc k) c t = cells-add (rounds (cell_round g w) k) (rounds-sound k) c t

  pub derives-sound : {p i j : ℕ} → T (derives? g w p i j) → DerivesBy g w p i j
  unfolding derives?
  derives-sound {p} {i} {j} t = rounds-sound (suc (cell_count g w)) (cell p i j) t

  -- ---- complete: a set that is closed at some kept places holds every cell of theirs that has a derivation
  pub complete-on : (D : ℕ → Type 0) → Kept g D → (X : Cell → Bool) → ((c : Cell) → D c.place → T (cell_round g w X c) → T (X c))
      → {p i j : ℕ} {r : List ℕ} → D p → Der g w p i j r → T (X (cell p i j))
  complete-on D kept X closed o (Der.finish {p = p} {i = i} e l) = closed (cell p i i) o (way_in g w X p i i l (end e refl))
  complete-on D kept X closed o (Der.match {p = p} {i = i} {j = j} e d t x) =
      let h = complete-on D kept X closed (kept.next p o (λ q. clash (cc))) x in
      closed (cell p i j) o (way_in g w X p i j (der-in x) (token e d t h))
  complete-on D kept X closed o (Der.expand {p = p} {a = a} {b = b} {f = f} {i = i} {j = j} e d x y) =
      let h = complete-on D kept X closed (kept.starts a b f d) x in
      let k = complete-on D kept X closed (kept.next p o (λ q. clash (cc))) y in
      closed (cell p i j) o (way_in g w X p i j (der-in y) (call b e d (der-le x) (der-le y) h k))

  all-kept : Kept g (λ _. Unit {0})
  all-kept = record { next = λ p _ _. tt; starts = λ a b f _. tt }

  pub derives-complete : {p i j : ℕ} {r : List ℕ} → Der g w p i j r → T (derives? g w p i j)
  derives-complete x = complete-on (λ _. Unit {0}) all-kept table_of (λ c _. table-closed c) tt x

  pub derives-iff : (p i j : ℕ) → T (derives? g w p i j) ↔ DerivesBy g w p i j
  derives-iff p i j = (derives-sound, λ h. derives-complete h.1)

  -- ---- open stacks
  runs-sound : (S : List ℕ) (i : ℕ) → T (runs? g w S i) → Opens g w S i
  unfolding runs?
  runs-sound [] i t = let e = eqb→eq i (length w) t in ([], rw e (Run.done {i = length w} (omega arith)))
  runs-sound (p ∷ S) i t =
      let (n, m, q, s) = any_of-T _ (cuts i (length w)) t in
      let h = and_T (derives? g w p i m) (runs? g w S m) s in
      let x = derives-sound h.0 in
      let y = runs-sound S m h.1 in
      (x.0 ++ y.0, der+run x.1 y.1)

  ders-runs : {S : List ℕ} {i j : ℕ} {r : List ℕ} → Ders g w S i j r → j ≡ length w → T (runs? g w S i)
  unfolding runs?
  ders-runs (none {i = i} l) e = rw e (eqb_refl (length w))
  ders-runs (more {p = p} {S = S} {i = i} {m = m} x xs) e =
      let l = der-le x in
      let k = der-in x in
      T-any_of (λ m. derives? g w p i m && runs? g w S m) (cuts i (length w)) (m - i) (up_from-get (suc (length w) - i) i m l (omega arith))
      (T_and (derives? g w p i m) (runs? g w S m) (derives-complete x) (ders-runs xs e))

  pub runs-iff : (S : List ℕ) (i : ℕ) → T (runs? g w S i) ↔ Opens g w S i
  runs-iff S i = (runs-sound S i, λ h. ders-runs (run→ders h.1) refl)
