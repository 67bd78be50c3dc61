-- A frame's set that is put changes nothing else; and what words have in common that differ only in sets of frames.
use mathlib.Core.Path.{◌≡◌, refl, ap, ◌∙◌}
use mathlib.Core.Logic.{◌⊎◌, inl, inr}
use mathlib.Core.List.{List}
use Prim.Native.Nat.{ℕ, zero, suc, ◌+◌, ◌*◌, ◌/◌, ◌%◌, ◌≤◌, ◌<◌}
use native.Mathlib.Omega.{arith}
use native.Mathlib.Decide.{dec_lt}
use lib.ListN.{length, get_or}
use Rattle.base.specs.Bits.{test_bit}
use Rattle.grammar.specs.inside.Tables.{grammar_in}
use Rattle.positions.specs.inside.Positions.{position_count, set_words, member}
use Rattle.positions.specs.inside.Words.{member_at, set_at, put_at}
use Rattle.positions.proofs.WordLaws.{length-put, put_word, put_same, put_other}
use Rattle.derivation.specs.inside.Frames.{frame_words, returns_of}
use Rattle.cells.specs.inside.Chart.{spot, cells_end, cell_has, Charted}
use Rattle.cells.proofs.Spots.{spot-below, lent-kept}
use Rattle.machine.specs.inside.Frames.{frame_has}
use Rattle.machine.proofs.PushLaws.{low-charted}
use Rattle.serving.specs.inside.Sets.{SetsOnly, Framed}

-- words that agree where a set stands
set_same : (ws vs : List ℕ) (at : ℕ) → ((j : ℕ) → at ≤ j → j < at + set_words → get_or vs j 0 ≡ get_or ws j 0) → set_at vs at ≡ set_at ws at
unfolding set_at
set_same ws vs at h =
    rw (
      h at (omega arith) (omega arith),
      h (at + 1) (omega arith) (omega arith),
      h (at + 2) (omega arith) (omega arith),
      h (at + 3) (omega arith) (omega arith),
      h (at + 4) (omega arith) (omega arith),
    ) refl

has_same : (ws vs : List ℕ) (at m : ℕ) → m < position_count → ((j : ℕ) → at ≤ j → j < at + set_words → get_or vs j 0 ≡ get_or ws j 0)
    → member_at vs at m ≡ member_at ws at m
unfolding member_at
has_same ws vs at m l h = ap (λ (x : ℕ). test_bit x (m % 32)) (h (at + m / 32) (omega arith) (omega arith))

-- ---- one set is put
module _ (ws : List ℕ) (base k : ℕ) (s : List ℕ) where
  abbrev put : List ℕ
  put = put_at ws (base + frame_words * k + 1) s

  place-apart : (j : ℕ) → (base + frame_words * j < base + frame_words * k + 1) ⊎ (base + frame_words * k + 1 + set_words ≤ base + frame_words * j)
  place-apart j = go (dec_lt k j)
    where
      go : Dec (k < j) → (base + frame_words * j < base + frame_words * k + 1) ⊎ (base + frame_words * k + 1 + set_words ≤ base + frame_words * j)
      go (yes h) = inr (omega arith)
      go (no h) = inl (omega arith)

  set_apart : (j : ℕ) → (j ≡ k → ⊥) → (base + frame_words * j + 1 + set_words ≤ base + frame_words * k + 1)
      ⊎ (base + frame_words * k + 1 + set_words ≤ base + frame_words * j + 1)
  set_apart j n = go (dec_lt k j)
    where
      go : Dec (k < j) → (base + frame_words * j + 1 + set_words ≤ base + frame_words * k + 1)
          ⊎ (base + frame_words * k + 1 + set_words ≤ base + frame_words * j + 1)
      go (yes h) = inr (omega arith)
      go (no h) = inl (omega arith)

  pub rest_put : (m : ℕ) → base + frame_words * suc k ≤ length ws → m < position_count → frame_has (put_at ws (base + frame_words * k + 1) s) base k m
      ≡ member s m
  unfolding frame_has
  rest_put m h l = put_same ws (base + frame_words * k + 1) s m (omega arith) l

  pub rest-other : (j m : ℕ) → (j ≡ k → ⊥) → m < position_count → frame_has (put_at ws (base + frame_words * k + 1) s) base j m
      ≡ frame_has ws base j m
  unfolding frame_has
  rest-other j m n l = put_other ws (base + frame_words * k + 1) (base + frame_words * j + 1) s m l (set_apart j n)

  pub rest_below : (j : ℕ) → j < k → set_at (put_at ws (base + frame_words * k + 1) s) (base + frame_words * j + 1) ≡ set_at ws (base + frame_words * j + 1)
  rest_below j n = set_same ws put (base + frame_words * j + 1) (λ x a b. put_word ws (base + frame_words * k + 1) x s (inl (omega arith)))

  -- only frame k's set has changed
  put_only : SetsOnly base k (suc k) ws put
  put_only =
      record {
        long = length-put ws (base + frame_words * k + 1) s;
        low = λ j l. put_word ws (base + frame_words * k + 1) j s (inl (omega arith));
        places = λ j. put_word ws (base + frame_words * k + 1) (base + frame_words * j) s (place-apart j);
        high = λ j l. put_word ws (base + frame_words * k + 1) j s (inr (omega arith));
      }

-- ---- only sets have changed
pub only_none : {base known d : ℕ} {ws : List ℕ} → SetsOnly base known d ws ws
only_none = record { long = refl; low = λ j l. refl; places = λ k. refl; high = λ j l. refl }

pub only-on : {base known d : ℕ} {ws us vs : List ℕ} → SetsOnly base known d ws us → SetsOnly base known d us vs → SetsOnly base known d ws vs
only-on x y =
    record {
      long = y.long ∙ x.long;
      low = λ j l. y.low j l ∙ x.low j l;
      places = λ k. y.places k ∙ x.places k;
      high = λ j l. y.high j l ∙ x.high j l;
    }

-- of more frames
only_wider : {base known d known' d' : ℕ} {ws us : List ℕ} → known' ≤ known → d ≤ d' → SetsOnly base known d ws us
    → SetsOnly base known' d' ws us
only_wider a b x = record { long = x.long; low = λ j l. x.low j (omega arith); places = x.places; high = λ j l. x.high j (omega arith) }

pub only-put : {base known d known' d' : ℕ} {ws us : List ℕ} (k : ℕ) (s : List ℕ) → known' ≤ known → d ≤ d' → known' ≤ k
    → k < d' → SetsOnly base known d ws us
    → SetsOnly base known' d' ws (put_at us (base + frame_words * k + 1) s)
only-put {base} {us = us} k s a b c e x = only-on (only_wider a b x) (only_wider c e (put_only us base k s))

-- what has stayed: return places, cells, the frames themselves
module _ {base known d : ℕ} {ws us : List ℕ} (x : SetsOnly base known d ws us) where
  pub only-returns : (k : ℕ) → returns_of us base k ≡ returns_of ws base k
  unfolding returns_of
  only-returns zero = refl
  only-returns (suc k) = let a = x.places k in let b = only-returns k in cc

  module _ (P n : ℕ) (e : base ≡ cells_end P n) (p i : ℕ) (l : p < P) (m : i ≤ n) where
    word_same : (j : ℕ) → j < spot P p i + set_words → get_or us j 0 ≡ get_or ws j 0
    word_same j h = x.low j (omega (arith, spot-below P n p i l m))

    pub only-cell : set_at us (spot P p i) ≡ set_at ws (spot P p i)
    only-cell = set_same ws us (spot P p i) (λ j a b. word_same j b)

    pub only-has : (j : ℕ) → j < position_count → cell_has P us p i j ≡ cell_has P ws p i j
    unfolding cell_has
    only-has j k = has_same ws us (spot P p i) j k (λ j a b. word_same j b)

  pub only-charted : (t w : List ℕ) → base ≡ cells_end (grammar_in t).size (length w) → Charted t w ws → Charted t w us
  only-charted t w e h = low-charted t w ws us (λ j l. x.low j (omega arith)) h

  -- sets of frames outside
  pub only-low : (k m : ℕ) → k < known → m < position_count → frame_has us base k m ≡ frame_has ws base k m
  unfolding frame_has
  only-low k m l h = has_same ws us (base + frame_words * k + 1) m h (λ j a b. x.low j (omega arith))

  pub only_high : (k m : ℕ) → d ≤ k → m < position_count → frame_has us base k m ≡ frame_has ws base k m
  unfolding frame_has
  only_high k m l h = has_same ws us (base + frame_words * k + 1) m h (λ j a b. x.high j (omega arith))

  pub only-framed : {P n known' d' : ℕ} → Framed P n base known' d' ws → Framed P n base known' d' us
  only-framed f =
      record {
        lent = lent-kept x.long f.lent;
        begins = f.begins;
        some = f.some;
        most = f.most;
        room = omega (arith, x.long, f.room);
        returns = λ k a b. rw (x.places k) (f.returns k a b);
      }
