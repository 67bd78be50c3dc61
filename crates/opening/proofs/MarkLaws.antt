-- Marks of open frames in words: what the code reads and writes of them, and that writing one changes no return place and nothing that the search holds.
use mathlib.Core.Path.{◌≡◌, refl, ◌∙◌}
use mathlib.Core.Bool.{Bool, false, ◌&&◌}
use mathlib.Core.List.{List}
use Prim.Native.Nat.{ℕ, suc, ◌+◌, ◌*◌, ◌≤◌, ◌<◌}
use native.Mathlib.Omega.{arith}
use native.Mathlib.Decide.{dec_lt}
use borrow.Author.Tests.{lt-ltb, le-ltb}
use lib.Dec.{T, eqb, ltb, eqb→eq, ltb→lt}
use lib.ListN.{length, get_or, set, length-set}
use lib.Seq.{get_or-set_same, get_or-set_other}
use Rattle.base.proofs.Booleans.{and_T}
use Rattle.grammar.specs.inside.Tables.{nonterminals_in}
use Rattle.positions.specs.inside.Positions.{position_count, member}
use Rattle.derivation.specs.inside.Frames.{frame_words}
use Rattle.search.specs.inside.Words.{search_words, Kept}
use Rattle.search.specs.inside.Searching.{Holds}
use Rattle.search.specs.inside.Trials.{CameSoFar}
use Rattle.opening.specs.inside.Marks.{mark_at, meets_of, mark_if_new, holds_of}
use Rattle.opening.specs.inside.Stacks.{StackKept}
use Rattle.search.proofs.WordLaws.{Agree, waits_end, holds_same, covered_same}
use Rattle.opening.proofs.KeptLaws.{returns-kept}

module _ (ws : List ℕ) (base known k : ℕ) where
  -- ---- as the code reads them
  -- a frame that has a mark: it is read, and nothing is written
  pub meets-known : (j : ℕ) {x : ℕ} → k < known → x ≡ mark_at ws base k
      → (eqb x j ≡ meets_of ws base known k j) × (ws ≡ mark_if_new ws base known k j)
  unfolding meets_of mark_if_new
  meets-known j l e = rw (e, lt-ltb k known l) (refl, refl)

  -- one that has none gets it
  pub meets-new : (j : ℕ) {x : ℕ} → known ≤ k → x ≡ j
      → (false ≡ meets_of ws base known k j) × (set ws (base + frame_words * k + 1) x ≡ mark_if_new ws base known k j)
  unfolding meets_of mark_if_new
  meets-new j l e = rw (e, le-ltb k known l) (refl, refl)

  -- a frame without a mark, one whose mark is no position, and one whose mark is looked up in the set
  pub among_none : (x : List ℕ) → known ≤ k → false ≡ holds_of ws base known k x
  unfolding holds_of
  among_none x l = rw (le-ltb k known l) refl

  pub among-far : (x : List ℕ) {m : ℕ} → k < known → m ≡ mark_at ws base k → position_count ≤ m → false ≡ holds_of ws base known k x
  unfolding holds_of
  among-far x l e h = rw (lt-ltb k known l, le-ltb (mark_at ws base k) position_count (omega arith)) refl

  pub among-has : (x : List ℕ) {m : ℕ} {r : Bool} → k < known → m ≡ mark_at ws base k → m < position_count → r ≡ member x m
      → r ≡ holds_of ws base known k x
  unfolding holds_of
  among-has x l e h q = rw (lt-ltb k known l, lt-ltb (mark_at ws base k) position_count (omega arith), ← e) q

  -- what the two answers say
  pub meets-T : (j : ℕ) → T (meets_of ws base known k j) → (k < known) × (mark_at ws base k ≡ j)
  unfolding meets_of
  meets-T j t = let x = and_T (ltb k known) (eqb (mark_at ws base k) j) t in (ltb→lt k known x.0, eqb→eq (mark_at ws base k) j x.1)

  pub holds-T : (x : List ℕ) → T (holds_of ws base known k x) → (k < known) × T (member x (mark_at ws base k))
  unfolding holds_of
  holds-T x t =
      let y = and_T (ltb k known) (ltb (mark_at ws base k) position_count && member x (mark_at ws base k)) t in
      (ltb→lt k known y.0, (and_T (ltb (mark_at ws base k) position_count) (member x (mark_at ws base k)) y.1).1)

  -- ---- as it is written
  module _ (j : ℕ) where
    mark-same : k < known → mark_if_new ws base known k j ≡ ws
    unfolding mark_if_new
    mark-same l = rw (lt-ltb k known l) refl

    mark_set : known ≤ k → mark_if_new ws base known k j ≡ set ws (base + frame_words * k + 1) j
    unfolding mark_if_new
    mark_set l = rw (le-ltb k known l) refl

    length-mark : length (mark_if_new ws base known k j) ≡ length ws
    length-mark = go (dec_lt k known)
      where
        go : Dec (k < known) → length (mark_if_new ws base known k j) ≡ length ws
        go (yes l) = rw (mark-same l) refl
        go (no l) = rw (mark_set (omega arith)) (length-set ws (base + frame_words * k + 1) j)

    -- every other word stays
    mark-word : (n : ℕ) → ¬ (n ≡ base + frame_words * k + 1) → get_or (mark_if_new ws base known k j) n 0 ≡ get_or ws n 0
    mark-word n h = go (dec_lt k known)
      where
        go : Dec (k < known) → get_or (mark_if_new ws base known k j) n 0 ≡ get_or ws n 0
        go (yes l) = rw (mark-same l) refl
        go (no l) = rw (mark_set (omega arith)) (get_or-set_other ws (base + frame_words * k + 1) n j 0 h)

    mark-place : (n : ℕ) → get_or (mark_if_new ws base known k j) (base + frame_words * n) 0 ≡ get_or ws (base + frame_words * n) 0
    mark-place n = mark-word (base + frame_words * n) (λ e. omega arith)

    pub mark-there : known ≤ k → base + frame_words * suc k ≤ length ws → mark_at (mark_if_new ws base known k j) base k ≡ j
    mark-there l h = rw (mark_set l) (get_or-set_same ws (base + frame_words * k + 1) j 0 (omega arith))

    -- the marks of other frames, and those that stood
    pub mark-other : (n : ℕ) → ¬ (n ≡ k) → mark_at (mark_if_new ws base known k j) base n ≡ mark_at ws base n
    mark-other n h = mark-word (base + frame_words * n + 1) (λ e. h (omega arith))

    pub mark-known : (n : ℕ) → n < known → mark_at (mark_if_new ws base known k j) base n ≡ mark_at ws base n
    mark-known n l = go (dec_lt k known)
      where
        go : Dec (k < known) → mark_at (mark_if_new ws base known k j) base n ≡ mark_at ws base n
        go (yes h) = rw (mark-same h) refl
        go (no h) = mark-other n (λ e. omega arith)

module _ (t w ms : List ℕ) (base known : ℕ) (behind : search_words (nonterminals_in t) (length w) ≤ base) where
  -- words behind those of the search stay, and with them all frames
  pub kept-worked : (ws₀ ws after : List ℕ) → Kept (search_words (nonterminals_in t) (length w)) ws after → Holds t w ms after
      → StackKept t w ms ws₀ ws base known → StackKept t w ms ws₀ after base known
  kept-worked ws₀ ws after k h x = record {
    long = k.long ∙ x.long;
    places = λ n. place n ∙ x.places n;
    holds = h;
    marks = λ n l. rw (returns-kept ws after base (suc n) place, k.word (base + frame_words * n + 1) (omega (arith, behind))) (x.marks n l);
  }
    where
      place : (n : ℕ) → get_or after (base + frame_words * n) 0 ≡ get_or ws (base + frame_words * n) 0
      place n = k.word (base + frame_words * n) (omega (arith, behind))

  -- a mark stands behind them
  agree : (ws : List ℕ) (k j : ℕ) → Agree (nonterminals_in t) (length w) ws (mark_if_new ws base known k j)
  agree ws k j = record { word = λ n l. mark-word ws base known k j n (λ e. omega (arith, behind, waits_end (nonterminals_in t) (length w))) }

  pub kept-mark : (ws₀ ws : List ℕ) (k j : ℕ) → StackKept t w ms ws₀ ws base known → StackKept t w ms ws₀ (mark_if_new ws base known k j) base known
  kept-mark ws₀ ws k j x = record {
    long = length-mark ws base known k j ∙ x.long;
    places = λ n. mark-place ws base known k j n ∙ x.places n;
    holds = holds_same t w ms (agree ws k j) x.holds;
    marks = λ n l.
        rw (returns-kept ws (mark_if_new ws base known k j) base (suc n) (mark-place ws base known k j), mark-known ws base known k j n l) (x.marks n l);
  }

  pub came-mark : (ws : List ℕ) (k j : ℕ) {high : ℕ} → CameSoFar t w ms ws high → CameSoFar t w ms (mark_if_new ws base known k j) high
  came-mark ws k j x = record { cover = covered_same t w ms (agree ws k j) x.cover; came = x.came }
