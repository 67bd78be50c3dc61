-- A frame that is pushed: its return place and its set stand there, and everything below stays, the cells too.
use mathlib.Core.Path.{◌≡◌, refl, ap, ◌∙◌}
use mathlib.Core.Logic.{inl}
use mathlib.Core.List.{List}
use Prim.Native.Nat.{ℕ, suc, ◌+◌, ◌*◌, ◌/◌, ◌%◌, ◌≤◌, ◌<◌}
use native.Mathlib.Omega.{arith}
use lib.ListN.{length, get_or, set, length-set}
use lib.Seq.{get_or-set_same, get_or-set_other}
use Rattle.base.specs.Bits.{test_bit}
use Rattle.grammar.specs.inside.Tables.{grammar_in}
use Rattle.positions.specs.inside.Positions.{position_count, member}
use Rattle.positions.specs.inside.Words.{member_at, put_at}
use Rattle.positions.proofs.WordLaws.{length-put, put_word, put_same}
use Rattle.derivation.specs.inside.Frames.{frame_words, Pushed}
use Rattle.cells.proofs.Spots.{spot-below}
use Rattle.cells.specs.inside.Chart.{spot, cells_end, cell_has, ChartedFrom, Charted}
use Rattle.machine.specs.inside.Frames.{frame_has, push_of}

-- words that agree below the frames have the same cells
pub low-charted : (t w ws vs : List ℕ) → ((j : ℕ) → j < cells_end (grammar_in t).size (length w) → get_or vs j 0 ≡ get_or ws j 0) → Charted t w ws
    → Charted t w vs
unfolding ChartedFrom cell_has member_at
low-charted t w ws vs same h p i j l m n o =
    let z = spot-below (grammar_in t).size (length w) p i l n in
    ap (λ (x : ℕ). test_bit x (j % 32)) (same (spot (grammar_in t).size p i + j / 32) (omega arith)) ∙ h p i j l m n o

-- words below a frame stay where its return place alone is written
pub put-below : (ws : List ℕ) (k q : ℕ) {after : List ℕ} {base bottom : ℕ} → base ≡ bottom → after ≡ set ws (base + frame_words * k) q
    → (j : ℕ) → j < bottom + frame_words * k → get_or after j 0 ≡ get_or ws j 0
put-below ws k q {bottom = bottom} e put j l = rw (put, e) (get_or-set_other ws (bottom + frame_words * k) j q 0 (λ z. omega arith))

module _ (ws : List ℕ) (base k q : ℕ) (s : List ℕ) where
  pub push-is : {v : ℕ} {after : List ℕ} → v ≡ q → after ≡ put_at (set ws (base + frame_words * k) v) (base + frame_words * k + 1) s → after
      ≡ push_of ws base k q s
  unfolding push_of
  push-is e h = h ∙ ap (λ (v : ℕ). put_at (set ws (base + frame_words * k) v) (base + frame_words * k + 1) s) e

  pub length_push : length (push_of ws base k q s) ≡ length ws
  unfolding push_of
  length_push = length-put (set ws (base + frame_words * k) q) (base + frame_words * k + 1) s ∙ length-set ws (base + frame_words * k) q

  -- words below the frame stay
  push-word : (j : ℕ) → (j < base + frame_words * k) → get_or (push_of ws base k q s) j 0 ≡ get_or ws j 0
  unfolding push_of
  push-word j l =
      put_word (set ws (base + frame_words * k) q) (base + frame_words * k + 1) j s (inl (omega arith)) ∙ put-below ws k q refl refl j l

  module _ (room : base + frame_words * suc k ≤ length ws) where
    pub push-pushed : Pushed ws (push_of ws base k q s) base k q
    unfolding push_of
    push-pushed =
        record {
          top = put_word (set ws (base + frame_words * k) q) (base + frame_words * k + 1) (base + frame_words * k) s (inl (omega arith))
              ∙ get_or-set_same ws (base + frame_words * k) q 0 (omega arith);
          rest = λ j l m. push-word j m;
        }

    pub push-has : (m : ℕ) → m < position_count → frame_has (push_of ws base k q s) base k m ≡ member s m
    unfolding push_of frame_has
    push-has m l =
        put_same (set ws (base + frame_words * k) q) (base + frame_words * k + 1) s m (rw length-set (omega arith)) l

    -- so the cells stay right, which all stand below the frames
    pub push-charted : (t w : List ℕ) → base ≡ cells_end (grammar_in t).size (length w) → Charted t w ws → Charted t w (push_of ws base k q s)
    push-charted t w e h = low-charted t w ws (push_of ws base k q s) (λ j l. push-word j (omega arith)) h
