-- Down and up again: every set is right wherever it can be asked.
use mathlib.Core.Path.{◌≡◌, refl, sym, ap, ◌∙◌}
use mathlib.Core.List.{List}
use Prim.Native.Nat.{ℕ, zero, suc, ◌+◌, ◌*◌, ◌≤◌, ◌<◌}
use native.Mathlib.Omega.{arith}
use native.Mathlib.Decide.{dec_lt}
use lib.Dec.{T}
use lib.ListN.{length}
use Rattle.base.proofs.Booleans.{T→true}
use Rattle.grammar.specs.Grammar.{Grammar}
use Rattle.grammar.specs.inside.Tables.{grammar_in}
use Rattle.positions.specs.inside.Positions.{position_count}
use Rattle.positions.specs.inside.Words.{set_at}
use Rattle.positions.proofs.SetLaws.{Fit}
use Rattle.positions.proofs.WordLaws.{member-set}
use Rattle.derivation.specs.Runs.{marked}
use Rattle.derivation.specs.Cells.{derives?, runs?}
use Rattle.derivation.specs.Space.{max_tokens}
use Rattle.derivation.specs.inside.Frames.{frame_words, returns_of}
use Rattle.derivation.specs.inside.Ready.{Ready}
use Rattle.derivation.proofs.CellLaws.{derives-sound}
use Rattle.derivation.proofs.RunLaws.{der-in}
use Rattle.derivation.proofs.MarkedCells.{length_marked, derives-inside}
use Rattle.machine.specs.inside.Frames.{frame_has, EveryFrame, FramesBelow, Good}
use Rattle.cells.specs.inside.Chart.{spot}
use Rattle.cells.proofs.Spots.{cell-member}
use Rattle.machine.specs.inside.Space.{ground, Spaced}
use Rattle.machine.specs.declared.steps.Space.{Space}
use Rattle.machine.proofs.ServingLaws.{cell_holds, meets-runs}
use Rattle.serving.specs.inside.Sets.{return_at, SetsOnly, Framed, AskedDown, ServedUp, Unsettled, SetsSettled}
use Rattle.serving.proofs.RestLaws.{only-on, only-returns, only-cell, only-charted, only-low}

-- ---- where a frame can be asked
module _ (g : Grammar) (w ws : List ℕ) (base : ℕ) where
  -- frame k, at position m, from place p at i over d frames
  pub data Asks (d p i : ℕ) : ℕ → ℕ → Type 0 where
    top : {k m : ℕ} → suc k ≡ d → T (derives? g w p i m) → Asks d p i k m
    under : {k m j : ℕ} → Asks d p i (suc k) m → T (derives? g w (return_at ws base (suc k)) m j) → Asks d p i k j

  asks-in : {d p i k m : ℕ} → Asks d p i k m → k < d
  asks-in (Asks.top e x) = omega arith
  asks-in (Asks.under a x) = let h = asks-in a in omega arith

  -- a frame's set is right exactly if it is right wherever the frame can be asked
  abbrev RightSets : (ℕ → Type 0) → ℕ → ℕ → Type 0
  RightSets K k m = K k → frame_has ws base k m ≡ runs? g w (returns_of ws base (suc k)) m

  good-at : (K : ℕ → Type 0) {d p i k m : ℕ} → Good g w ws base K d p i → Asks d p i k m → RightSets K k m
      × Good g w ws base K k (return_at ws base k) m
  unfolding Good
  good-at K {m = m} h (Asks.top e x) = (rw (sym e) at h) m x
  good-at K h (Asks.under {j = j} a x) = (good-at K h a).1 j x

  -- the frames under the topmost
  asks-lift : {d p i m k j : ℕ} → T (derives? g w p i m) → Asks d (return_at ws base d) m k j → Asks (suc d) p i k j
  asks-lift {d} {p} {i} {m} {k} {j} x (Asks.top e y) = Asks.under {m = m} {j = j} (Asks.top (ap suc e) x) (rw e y)
  asks-lift x (Asks.under a y) = Asks.under (asks-lift x a) y

  right-good : (K : ℕ → Type 0) (d p i : ℕ) → ((k m : ℕ) → Asks d p i k m → RightSets K k m) → Good g w ws base K d p i
  unfolding Good
  right-good K zero p i h = tt
  right-good K (suc d) p i h = λ m x. (h d m (Asks.top refl x), right-good K d (return_at ws base d) m (λ k j a. h k j (asks-lift x a)))

-- other words with the same return places
asks-same : (g : Grammar) (w ws us : List ℕ) (base : ℕ) {d p i k m : ℕ} → ((k : ℕ) → return_at us base k ≡ return_at ws base k)
    → Asks g w us base d p i k m → Asks g w ws base d p i k m
asks-same g w ws us base h (Asks.top e x) = Asks.top e x
asks-same g w ws us base h (Asks.under {k = k} {m = m} {j = j} a x) = Asks.under {m = m} {j = j} (asks-same g w ws us base h a) (rw (sym (h (suc k))) x)

-- ---- the whole
module _ (t : List ℕ) (h : Ready t) (w ws : List ℕ) (fit : Fit ws) (known d p i : ℕ) (x : Unsettled t w ws known d p i) where
  abbrev CanAsk : ℕ → ℕ → Type 0
  CanAsk k m = Asks (grammar_in t) (marked w) ws (ground t w) d p i k m

  short : length w ≤ max_tokens
  short = x.framed.lent.short

  small : (q k : ℕ) {m : ℕ} → T (derives? (grammar_in t) (marked w) q k m) → m < position_count
  small q k y = let z = der-in (derives-sound (grammar_in t) (marked w) y).1 in omega (arith, length_marked w, short)

  asks-small : {k m : ℕ} → CanAsk k m → m < position_count
  asks-small (Asks.top e y) = small _ _ y
  asks-small (Asks.under a y) = small _ _ y

  -- from the first frame on that is not known all return places are the grammar's, so nothing is asked behind the note
  asks-inside : {k m : ℕ} → known ≤ k → CanAsk k m → m ≤ length w
  asks-inside l (Asks.top {m = m} e y) = derives-inside t h w p i m x.place x.position y
  asks-inside l (Asks.under {k = k} {m = m} {j = j} a y) =
      derives-inside t h w (return_at ws (ground t w) (suc k)) m j
      (x.framed.returns (suc k) (omega arith) (asks-in (grammar_in t) (marked w) ws (ground t w) a))
      (asks-inside (omega arith) a) y

  module _ {asked : List ℕ} (begun : asked ≡ set_at ws (spot (grammar_in t).size p i)) (mid after : List ℕ)
      (down : AskedDown (grammar_in t).size (length w) (ground t w) known d asked ws mid)
      (up : ServedUp (grammar_in t).size (length w) (ground t w) known d mid after) where
    abbrev base : ℕ
    base = ground t w

    abbrev g : Grammar
    g = grammar_in t

    -- on the way down every position comes into a set at which it can be asked
    asked-holds : {k m : ℕ} → known ≤ k → CanAsk k m → T (frame_has mid base k m)
    asked-holds l (Asks.top {k = k} {m = m} e y) =
        down.top k m l e (small _ _ y)
        (rw (cell-member (grammar_in t).size ws p i m begun (small _ _ y)) (cell_holds t h w ws x.charted short fit p i m x.place x.position y))
    asked-holds l (Asks.under {k = k} {m = m} {j = j} a y) =
        let b = asks-in g (marked w) ws base a in
        let c = asks-inside (omega arith) a in
        down.under k m j l b c (small _ _ y) (asked-holds (omega arith) a)
        (cell_holds t h w ws x.charted short fit (return_at ws base (suc k)) m j (x.framed.returns (suc k) (omega arith) b) c y)

    -- on the way up the sets become right, from the known ones on
    kept : SetsOnly base known d ws after
    kept = only-on down.kept up.kept

    abbrev RightAt : ℕ → ℕ → Type 0
    RightAt k m = frame_has after base k m ≡ runs? g (marked w) (returns_of ws base (suc k)) m

    right-known : (k m : ℕ) → k < known → CanAsk k m → RightAt k m
    right-known k m l y = only-low kept k m l (asks-small y) ∙ (good-at g (marked w) ws base (FramesBelow known) x.good y).0 l

    right-next : (k m : ℕ) → known ≤ suc k → CanAsk (suc k) m → ((j : ℕ) → CanAsk k j → RightAt k j) → RightAt (suc k) m
    unfolding returns_of frame_has
    right-next k m l y below =
        let b = asks-in g (marked w) ws base y in
        let c = asks-inside l y in
        let q : return_at ws base (suc k) < g.size = x.framed.returns (suc k) l b in
        let e = only-cell down.kept g.size (length w) refl (return_at ws base (suc k)) m q c in
        up.sets k m l b c
        ∙ (rw (T→true (frame_has mid base (suc k) m) (asked-holds l y), down.kept.places (suc k), e)
        (meets-runs t h w ws x.charted short fit (return_at ws base (suc k)) m (set_at after (base + frame_words * k + 1)) (returns_of ws base (suc k)) q c
        (λ j n z. member-set after (base + frame_words * k + 1) j (small _ _ z) ∙ below j (Asks.under y z))))

    right : (k m : ℕ) → CanAsk k m → RightAt k m
    right zero m y = right-known 0 m x.framed.some y
    right (suc k) m y = elim (dec_lt (suc k) known) [ yes l ↦ right-known (suc k) m l y | no l ↦ right-next k m (omega arith) y (right k) ]

    settled : SetsSettled t w ws after known d p i
    settled =
        record {
          kept = kept;
          charted = only-charted kept t w refl x.charted;
          returns = only-returns kept d;
          good = right-good g (marked w) after base EveryFrame d p i
              (λ k m y _. right k m (asks-same g (marked w) ws after base kept.places y)
              ∙ ap (λ (S : List ℕ). runs? g (marked w) S m) (sym (only-returns kept (suc k))));
        }

-- as the code has it: its own names for the number of places and for where the frames begin
pub settle-leaves : (t : List ℕ) → Ready t → (w ws : List ℕ) → Fit ws → (known d p i : ℕ) → Unsettled t w ws known d p i → {s : Space}
    → Spaced t w s
    → {asked mid after : List ℕ} → asked ≡ set_at ws (spot s.places p i) → AskedDown s.places (length w) s.base known d asked ws mid
    → ServedUp s.places (length w) s.base known d mid after → SetsSettled t w ws after known d p i
settle-leaves t h w ws fit known d p i x e {asked} {mid} {after} begun down up =
    settled t h w ws fit known d p i x (rw e.places at begun) mid after (rw (e.places, e.base) at down) (rw (e.places, e.base) at up)

pub framed_of : {t w : List ℕ} {s : Space} {known d : ℕ} {ws : List ℕ} → Spaced t w s → Framed (grammar_in t).size (length w) (ground t w) known d ws
    → Framed s.places (length w) s.base known d ws
framed_of e x = rw (e.places, e.base) x
