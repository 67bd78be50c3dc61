-- The rows that Warshall's passes end with are where one or more moves lead: they are begun with the moves, closed, and hold nothing else.
use mathlib.Core.Path.{◌≡◌, refl, sym, ap, ◌∙◌, fun_ext}
use mathlib.Core.Logic.{◌⊎◌, inl, inr}
use mathlib.Core.Bool.{Bool, true, false, cond, ◌&&◌, ◌||◌}
use mathlib.Core.List.{List}
use Prim.Native.Nat.{ℕ, zero, suc, ◌≤◌, ◌<◌}
use native.Mathlib.Omega.{arith}
use native.Mathlib.Decide.{dec_lt}
use lib.Bits.{bit_or}
use lib.Dec.{T, eqb}
use lib.ListN.{length, get_or, set, length-set}
use lib.Seq.{get_or-set_same, get_or-set_other}
use borrow.Author.Tests.{eqb-true}
use Rattle.base.specs.Bits.{test_bit}
use Rattle.base.specs.Rounds.{any_of}
use Rattle.base.proofs.Booleans.{or-T, T-or-l, T-or-r, and_T, T_and, or-none, and_none}
use Rattle.base.proofs.Bits.{test-none, test-or, same?}
use Rattle.grammar.specs.Grammar.{Grammar, suffix, alternatives, of_places}
use Rattle.closures.specs.Textbook.{Move, Reaches, one}
use Rattle.corners.specs.Corners.{leads, move?, Corners, left_recursive?}
use Rattle.closures.specs.inside.Steps.{DerivingIs}
use Rattle.corners.specs.inside.Steps.{MovesFrom, MoveRows, join_of, pivot_below, pivot_of, reach_of}
use Rattle.corners.proofs.LeftRecursion.{move-iff, reaches-trans, rows-exact-below, rows-recursive}

-- row a holds c
abbrev pub holds : List ℕ → ℕ → ℕ → Bool
holds rows a c = test_bit (get_or rows a 0) c

-- ---- one join, one pivot
module _ (row b : ℕ) where
  join-length : (a : ℕ) (rows : List ℕ) → length (join_of row b a rows) ≡ length rows
  unfolding join_of
  join-length a rows = go (test_bit (get_or rows a 0) b)
    where
      go : (d : Bool) → length (cond d (set rows a (bit_or (get_or rows a 0) row)) rows) ≡ length rows
      go true = length-set rows a (bit_or (get_or rows a 0) row)
      go false = refl

  join-other : (k a : ℕ) (rows : List ℕ) → (a ≡ k → ⊥) → get_or (join_of row b k rows) a 0 ≡ get_or rows a 0
  unfolding join_of
  join-other k a rows n = go (test_bit (get_or rows k 0) b)
    where
      go : (d : Bool) → get_or (cond d (set rows k (bit_or (get_or rows k 0) row)) rows) a 0 ≡ get_or rows a 0
      go true = get_or-set_other rows k a (bit_or (get_or rows k 0) row) 0 n
      go false = refl

  join-same : (a : ℕ) (rows : List ℕ) → a < length rows → (c : ℕ) → holds (join_of row b a rows) a c
      ≡ (holds rows a c || (holds rows a b && test_bit row c))
  unfolding join_of
  join-same a rows l c = go (test_bit (get_or rows a 0) b)
    where
      go : (d : Bool) → holds (cond d (set rows a (bit_or (get_or rows a 0) row)) rows) a c ≡ (holds rows a c || (d && test_bit row c))
      go true = ap (λ (x : ℕ). test_bit x c) (get_or-set_same rows a (bit_or (get_or rows a 0) row) 0 l) ∙ test-or (get_or rows a 0) row c
      go false = sym (or-none (test_bit (get_or rows a 0) c))

  through-length : (n : ℕ) (rows : List ℕ) → length (pivot_below row b n rows) ≡ length rows
  unfolding pivot_below
  through-length zero rows = refl
  through-length (suc n) rows = join-length n (pivot_below row b n rows) ∙ through-length n rows

  through-above : (n a : ℕ) (rows : List ℕ) → n ≤ a → get_or (pivot_below row b n rows) a 0 ≡ get_or rows a 0
  unfolding pivot_below
  through-above zero a rows h = refl
  through-above (suc n) a rows h = join-other n a (pivot_below row b n rows) (λ e. omega arith) ∙ through-above n a rows (omega arith)

  through-at : (n a : ℕ) (rows : List ℕ) → a < n → a < length rows → (c : ℕ) → holds (pivot_below row b n rows) a c
      ≡ (holds rows a c || (holds rows a b && test_bit row c))
  unfolding pivot_below
  through-at zero a rows h l c = absurd (omega arith)
  through-at (suc n) a rows h l c = elim (dec_lt a n) [
    | yes k ↦ ap (λ (x : ℕ). test_bit x c) (join-other n a (pivot_below row b n rows) (λ e. omega arith)) ∙ through-at n a rows k l c
    | no k ↦
        (let e : n ≡ a = omega arith in
        rw e (join-same a (pivot_below row b a rows) (omega (arith, through-length a rows)) c
        ∙ ap (λ (x : ℕ). test_bit x c || (test_bit x b && test_bit row c)) (through-above a a rows (omega arith))))
  ]

-- through b: what a row held, and if it held b, what b's row held
pivot-at : (n b a : ℕ) (rows : List ℕ) → a < n → a < length rows → (c : ℕ) → holds (pivot_of n b rows) a c
    ≡ (holds rows a c || (holds rows a b && holds rows b c))
unfolding pivot_of
pivot-at n b a rows h l c = go (eqb (get_or rows b 0) 0) refl
  where
    go : (d : Bool) → eqb (get_or rows b 0) 0 ≡ d → holds (cond d rows (pivot_below (get_or rows b 0) b n rows)) a c
        ≡ (holds rows a c || (holds rows a b && holds rows b c))
    go true e =
        let z : holds rows b c ≡ false = ap (λ (x : ℕ). test_bit x c) (eqb-true (get_or rows b 0) 0 e) ∙ test-none c in
        sym (ap (λ (d : Bool). holds rows a c || (holds rows a b && d)) z ∙ ap (λ (d : Bool). holds rows a c || d) (and_none (holds rows a b))
        ∙ or-none (holds rows a c))
    go false e = through-at (get_or rows b 0) b n a rows h l c

pivot-length : (n b : ℕ) (rows : List ℕ) → length (pivot_of n b rows) ≡ length rows
unfolding pivot_of
pivot-length n b rows = go (eqb (get_or rows b 0) 0)
  where
    go : (d : Bool) → length (cond d rows (pivot_below (get_or rows b 0) b n rows)) ≡ length rows
    go true = refl
    go false = through-length (get_or rows b 0) b n rows

pub reach-length : (n b : ℕ) (rows : List ℕ) → length (reach_of n b rows) ≡ length rows
unfolding reach_of
reach-length n zero rows = refl
reach-length n (suc b) rows = pivot-length n b (reach_of n b rows) ∙ reach-length n b rows

-- ---- n rows within a list, with what holds after the pivots below b
module _ (n : ℕ) where
  module _ (b : ℕ) (rows : List ℕ) (few : n ≤ length rows) where
    pivot-keeps : (a c : ℕ) → a < n → T (holds rows a c) → T (holds (pivot_of n b rows) a c)
    pivot-keeps a c l t = rw (pivot-at n b a rows l (omega arith) c) (T-or-l (holds rows a c) (holds rows a b && holds rows b c) t)

    pivot-adds : (a c : ℕ) → a < n → T (holds rows a b) → T (holds rows b c) → T (holds (pivot_of n b rows) a c)
    pivot-adds a c l s t = rw (pivot-at n b a rows l (omega arith) c)
        (T-or-r (holds rows a c) (holds rows a b && holds rows b c) (T_and (holds rows a b) (holds rows b c) s t))

    -- what a row holds afterwards it held before, or b leads there
    pivot-from : (a c : ℕ) → a < n → T (holds (pivot_of n b rows) a c) → T (holds rows a c) ⊎ (T (holds rows a b) × T (holds rows b c))
    pivot-from a c l t = go (or-T (holds rows a c) (holds rows a b && holds rows b c) (rw (pivot-at n b a rows l (omega arith) c) at t))
      where
        go : T (holds rows a c) ⊎ T (holds rows a b && holds rows b c) → T (holds rows a c) ⊎ (T (holds rows a b) × T (holds rows b c))
        go (inl s) = inl s
        go (inr s) = inr (and_T (holds rows a b) (holds rows b c) s)

  -- two steps whose middle lies below b are one
  abbrev Closed : ℕ → List ℕ → Type 0
  Closed b rows = (a m c : ℕ) → a < n → m < n → m < b → T (holds rows a m) → T (holds rows m c) → T (holds rows a c)

  closed-pivot : (b : ℕ) (rows : List ℕ) → n ≤ length rows → b < n → Closed b rows → Closed (suc b) (pivot_of n b rows)
  closed-pivot b rows few lb h a m c la lm lt s t = go (same? m b) (pivot-from b rows few a m la s) (pivot-from b rows few m c lm t)
    where
      -- to b, and from b
      onto : (m ≡ b) ⊎ (m ≡ b → ⊥) → T (holds rows a m) ⊎ (T (holds rows a b) × T (holds rows b m)) → T (holds rows m b) → T (holds rows a b)
      onto (inl e) (inl s) u = rw e at s
      onto (inr e) (inl s) u = h a m b la lm (omega arith) s u
      onto e (inr s) u = s.0

      go : (m ≡ b) ⊎ (m ≡ b → ⊥) → T (holds rows a m) ⊎ (T (holds rows a b) × T (holds rows b m)) → T (holds rows m c)
          ⊎ (T (holds rows m b) × T (holds rows b c))
          → T (holds (pivot_of n b rows) a c)
      go e s (inr t) = pivot-adds b rows few a c la (onto e s t.0) t.1
      go (inl e) (inl s) (inl t) = pivot-adds b rows few a c la (rw e at s) (rw e at t)
      go (inr e) (inl s) (inl t) = pivot-keeps b rows few a c la (h a m c la lm (omega arith) s t)
      go (inl e) (inr s) (inl t) = pivot-adds b rows few a c la s.0 (rw e at t)
      go (inr e) (inr s) (inl t) = pivot-adds b rows few a c la s.0 (h b m c lb lm (omega arith) s.1 t)

  pub reach-closed : (b : ℕ) (rows : List ℕ) → n ≤ length rows → b ≤ n → Closed b (reach_of n b rows)
  unfolding reach_of
  reach-closed zero rows few l = λ a m c la lm lt s t. absurd (omega arith)
  reach-closed (suc b) rows few l =
      closed-pivot b (reach_of n b rows) (omega (arith, reach-length n b rows)) (omega arith) (reach-closed b rows few (omega arith))

  pub reach-keeps : (b : ℕ) (rows : List ℕ) → n ≤ length rows → (a c : ℕ) → a < n → T (holds rows a c) → T (holds (reach_of n b rows) a c)
  unfolding reach_of
  reach-keeps zero rows few a c l t = t
  reach-keeps (suc b) rows few a c l t = pivot-keeps b (reach_of n b rows) (omega (arith, reach-length n b rows)) a c l (reach-keeps b rows few a c l t)

  -- what n rows hold is within a relation
  abbrev Sound : (ℕ → ℕ → Type 0) → List ℕ → Type 0
  Sound R rows = (a c : ℕ) → a < n → T (holds rows a c) → R a c

  -- if it is transitive, the passes stay within it
  pub reach-sound : (R : ℕ → ℕ → Type 0) → ((a b c : ℕ) → R a b → R b c → R a c) → (b : ℕ) (rows : List ℕ) → n ≤ length rows → b ≤ n → Sound R rows
      → Sound R (reach_of n b rows)
  unfolding reach_of
  reach-sound R trans zero rows few lb h = h
  reach-sound R trans (suc b) rows few lb h =
      λ a c l t. go a c l (reach-sound R trans b rows few (omega arith) h) (pivot-from b (reach_of n b rows) (omega (arith, reach-length n b rows)) a c l t)
    where
      go : (a c : ℕ) → a < n → Sound R (reach_of n b rows)
          → T (holds (reach_of n b rows) a c) ⊎ (T (holds (reach_of n b rows) a b) × T (holds (reach_of n b rows) b c)) → R a c
      go a c l s (inl t) = s a c l t
      go a c l s (inr t) = trans a b c (s a b l t.0) (s b c (omega arith) t.1)

-- ---- the rows to begin with
moves-are : (nullable : ℕ) (g : Grammar) (a x : ℕ) → DerivingIs false g nullable → MovesFrom nullable g a x → (c : ℕ) → test_bit x c ≡ move? g a c
unfolding MovesFrom DerivingIs move?
moves-are nullable g a x d m c = m c ∙ ap (λ (X : ℕ → Bool). any_of (λ f. leads X c (suffix g f)) (alternatives g a)) (fun_ext d)

pub corners-are : (nullable : ℕ) (g : Grammar) (n : ℕ) (rows : List ℕ) → DerivingIs false g nullable → MoveRows nullable g n rows → Corners g n rows
unfolding MoveRows Corners
corners-are nullable g n rows d h a c l = moves-are nullable g a (get_or rows a 0) d (h a l) c

-- what a row holds
pub row_is : (g : Grammar) (n : ℕ) (rows : List ℕ) → Corners g n rows → (a : ℕ) → a < n → (c : ℕ) → holds rows a c ≡ move? g a c
unfolding Corners
row_is g n rows h a l c = h a c l

-- ---- so the rows are right
module _ (g : Grammar) (n : ℕ) (rows : List ℕ) (e : n ≡ length g.starts) (named : (a c : ℕ) → Move (of_places g) a c → c < n) (few : n ≤ length rows)
    (h : Corners g n rows) where
  pub reached : (a : ℕ) → a < n → holds (reach_of n n rows) a a ≡ left_recursive? g a
  reached a l =
      rows-recursive g (holds (reach_of n n rows)) a
      (rows-exact-below g (holds (reach_of n n rows))
      (λ a c m. omega (arith, e, named a c m))
      (λ a c la lc t. reach-keeps n n rows few a c (omega (arith, e)) (rw (row_is g n rows h a (omega (arith, e)) c) t))
      (λ a b c la lb lc s t. reach-closed n n rows few (omega arith) a b c (omega (arith, e)) (omega (arith, e)) (omega (arith, e)) s t)
      (λ a c la t. reach-sound n (Reaches (of_places g)) (λ a b c. reaches-trans) n rows few (omega arith)
      (λ a c la t. one ((move-iff g a c).0 (rw (row_is g n rows h a la c) at t))) a c (omega (arith, e)) t)
      a (omega (arith, e)) a)
