-- Rounds collect only nonterminals from which moves end; and where moves end from all of them, what is left recursive moves to itself at once.
use mathlib.Core.Path.{◌≡◌, refl, sym}
use mathlib.Core.Logic.{◌⊎◌, inl, inr, ⊎_elim}
use mathlib.Core.Bool.{Bool, true, false, cond, not}
use mathlib.Core.List.{List}
use Prim.Native.Nat.{ℕ, zero, suc, ◌+◌, ◌-◌, ◌^◌, ◌≤◌, ◌<◌}
use native.Mathlib.Numerals.{add-one}
use native.Mathlib.Omega.{arith}
use lib.Bits.{bit_or, bit_and, bit_xor}
use lib.Dec.{T, eqb, eqb→eq}
use lib.ListN.{length, get_or}
use borrow.Author.Tests.{not-true}
use Rattle.base.specs.Bits.{word_bits, test_bit, set_bit, is_subset}
use Rattle.base.proofs.Booleans.{same, and_T, or-T, T-or-l, true→T, T→true, ¬T→false}
use Rattle.base.proofs.Bits.{same?, test-or, test-and, test-set, test-none, test_below, test-opposite, below-few, subset_iff}
use Rattle.grammar.specs.Grammar.{Grammar, of_places}
use Rattle.closures.specs.Textbook.{Move, Reaches, one, more}
use Rattle.corners.specs.Corners.{Corners, left_recursive?}
use Rattle.corners.specs.inside.Steps.{LedIs}
use Rattle.corners.specs.inside.Ending.{Ends, ends, Ending, Settled, AllEnd, ended_of, ended_below}
use Rattle.corners.proofs.LeftRecursion.{move-iff, move-from, reaches-trans, left_recursive-iff}
use Rattle.corners.proofs.Warshall.{row_is}

-- ---- a round, nonterminal by nonterminal
pub ended-more : (rows : List ℕ) (x a : ℕ) {y r : ℕ} → y ≡ ended_below rows x a → r ≡ ended_of (get_or rows a 0) a x
    → bit_or y r ≡ ended_below rows x (a + 1)
unfolding ended_below
ended-more rows x a i e = rw (add-one, ← i, ← e)

-- ---- sets from whose members moves end, and lead to members alone
-- a nonterminal outside `led` has an empty row
pub unled-empty : (rows : List ℕ) (n led : ℕ) → n ≤ word_bits → LedIs rows n led → {all turned : ℕ} → all ≡ 2 ^ n - 1 → turned
    ≡ bit_xor led (2 ^ word_bits - 1)
    → (a : ℕ) → T (test_bit (bit_and all turned) a) → get_or rows a 0 ≡ 0
unfolding LedIs
unled-empty rows n led few h {all} {turned} e q a t = h a named outside
  where
    both : T (test_bit all a) × T (test_bit turned a)
    both = and_T (test_bit all a) (test_bit turned a) (rw test-and at t)

    named : a < n
    named = below-few n a (rw e at both.0)

    outside : test_bit led a ≡ false
    outside = not-true (test_bit led a) (T→true (not (test_bit led a)) (rw (q, test-opposite led a (omega (arith, named))) at both.1))

-- no move leads anywhere from members with empty rows
pub settled-empty : (rows : List ℕ) (x : ℕ) → ((a : ℕ) → T (test_bit x a) → get_or rows a 0 ≡ 0) → Settled rows x
settled-empty rows x h =
    record {
      ending = λ a t. ends a (λ c s _. absurd (none a c t s));
      closed = λ a c t s. absurd (none a c t s);
      apart = λ a t. rw (h a t, test-none);
    }
  where
    none : (a c : ℕ) → T (test_bit x a) → T (test_bit (get_or rows a 0) c) → ⊥
    none a c t s = rw (h a t, test-none) at s

-- moves from members stay among members, so other rows do not matter
module _ (rows rows' : List ℕ) (x : ℕ) (same_row : (a : ℕ) → T (test_bit x a) → get_or rows' a 0 ≡ get_or rows a 0) (h : Settled rows x) where
  before : (a c : ℕ) → T (test_bit x a) → T (test_bit (get_or rows' a 0) c) → T (test_bit (get_or rows a 0) c)
  before a c t s = rw (same_row a t) at s

  ends-frame : {a : ℕ} → Ends rows a → T (test_bit x a) → Ends rows' a
  ends-frame (ends a f) t = ends a (λ c s q. ends-frame (f c (before a c t s) q) (h.closed a c t (before a c t s)))

  pub settled-frame : Settled rows' x
  settled-frame =
      record {
        ending = λ a t. ends-frame (h.ending a t) t;
        closed = λ a c t s. h.closed a c t (before a c t s);
        apart = λ a t. rw (same_row a t) (h.apart a t);
      }

-- a nonterminal whose moves all lead to members joins them; none of its moves leads to itself, as it was no member
pub settled-join : (rows : List ℕ) (x a : ℕ) → Settled rows x → (T (test_bit x a) → ⊥) → T (is_subset (get_or rows a 0) x) → Settled rows (set_bit x a)
settled-join rows x a h outside within =
    record {
      ending = λ b t. ending b (split b t);
      closed = λ b c t s. rw test-set (T-or-l (test_bit x c) (eqb c a) (closed b c (split b t) s));
      apart = λ b t. apart b (split b t);
    }
  where
    split : (b : ℕ) → T (test_bit (set_bit x a) b) → T (test_bit x b) ⊎ T (eqb b a)
    split b t = or-T (test_bit x b) (eqb b a) (rw test-set at t)

    held : (c : ℕ) → T (test_bit (get_or rows a 0) c) → T (test_bit x c)
    held = (subset_iff (get_or rows a 0) x).0 within

    closed : (b c : ℕ) → T (test_bit x b) ⊎ T (eqb b a) → T (test_bit (get_or rows b 0) c) → T (test_bit x c)
    closed b c (inl t) s = h.closed b c t s
    closed b c (inr t) s = held c (rw (eqb→eq b a t) at s)

    ending : (b : ℕ) → T (test_bit x b) ⊎ T (eqb b a) → Ends rows b
    ending b (inl t) = h.ending b t
    ending b (inr t) = ends b (λ c s _. h.ending c (closed b c (inr t) s))

    apart : (b : ℕ) → T (test_bit x b) ⊎ T (eqb b a) → test_bit (get_or rows b 0) b ≡ false
    apart b (inl t) = h.apart b t
    apart b (inr t) = rw (eqb→eq b a t) (¬T→false (test_bit (get_or rows a 0) a) (λ s. outside (held a s)))

-- ---- what a round collects
module _ (rows : List ℕ) (x a : ℕ) where
  -- a member of what one nonterminal adds is this nonterminal
  ended-own : (k : ℕ) → T (test_bit (ended_of (get_or rows k 0) k x) a) → T (is_subset (get_or rows a 0) (set_bit x a))
  ended-own k t = go (is_subset (get_or rows k 0) (set_bit x k)) refl t
    where
      own : T (test_bit 0 a) ⊎ T (eqb a k) → a ≡ k
      own (inl s) = absurd (rw test-none at s)
      own (inr s) = eqb→eq a k s

      go : (b : Bool) → is_subset (get_or rows k 0) (set_bit x k) ≡ b → T (test_bit (cond b (set_bit 0 k) 0) a) → T (is_subset (get_or rows a 0) (set_bit x a))
      go true e s = rw (own (or-T (test_bit 0 a) (eqb a k) (rw test-set at s))) (true→T (is_subset (get_or rows k 0) (set_bit x k)) e)
      go false e s = absurd (rw test-none at s)

  ended-from : (k : ℕ) → T (test_bit (ended_below rows x k) a) → T (is_subset (get_or rows a 0) (set_bit x a))
  unfolding ended_below
  ended-from zero t = absurd (rw test-none at t)
  ended-from (suc k) t =
      ⊎_elim (ended-from k) (ended-own k) (or-T (test_bit (ended_below rows x k) a) (test_bit (ended_of (get_or rows k 0) k x) a) (rw test-or at t))

-- judged by a set from whose members moves end, so it is from what a round collects
pub ending-round : (rows : List ℕ) (x n : ℕ) {r : ℕ} → Ending rows x → r ≡ ended_below rows x n → Ending rows r
ending-round rows x n h e a t = ends a (λ c s q. go c q (or-T (test_bit x c) (eqb c a) (rw test-set at (held c s))))
  where
    held : (c : ℕ) → T (test_bit (get_or rows a 0) c) → T (test_bit (set_bit x a) c)
    held = (subset_iff (get_or rows a 0) (set_bit x a)).0 (ended-from rows x a n (rw e at t))

    go : (c : ℕ) → (c ≡ a → ⊥) → T (test_bit x c) ⊎ T (eqb c a) → Ends rows c
    go c q (inl s) = h c s
    go c q (inr s) = absurd (q (eqb→eq c a s))

-- the set of all nonterminals
all_in : (n : ℕ) {x : ℕ} → x ≡ 2 ^ n - 1 → (a : ℕ) → a < n → T (test_bit x a)
all_in n e a l = rw e (true→T (test_bit (2 ^ n - 1) a) (test_below n a l))

-- moves end from every nonterminal
pub ending-all : (rows : List ℕ) (n : ℕ) {x : ℕ} → Ending rows x → x ≡ 2 ^ n - 1 → AllEnd rows n
ending-all rows n {x} h e a l = h a (all_in n e a l)

-- no move of any of them leads to itself
pub settled-none : (rows : List ℕ) (n : ℕ) {x : ℕ} → Settled rows x → x ≡ 2 ^ n - 1 → (a : ℕ) → a < n → test_bit (get_or rows a 0) a ≡ false
settled-none rows n h e a l = h.apart a (all_in n e a l)

-- ---- left recursion where moves end
module _ (g : Grammar) (n : ℕ) (rows : List ℕ) (e : n ≡ length g.starts) (h : Corners g n rows) where
  in_row : {a c : ℕ} → Move (of_places g) a c → T (test_bit (get_or rows a 0) c)
  in_row {a} {c} m = rw (row_is g n rows h a (omega (arith, e, move-from g m)) c) ((move-iff g a c).1 m)

  -- no move from a, but for one to a itself, is on a way back to a
  abbrev Onward : ℕ → Type 0
  Onward a = (b : ℕ) → Move (of_places g) a b → (b ≡ a → ⊥) → Reaches (of_places g) b a → ⊥

  -- the first move that leaves b on a way from b to a would be on a way back to b, by way of a
  no_return : {a b : ℕ} → Move (of_places g) a b → (b ≡ a → ⊥) → Onward b → {c : ℕ} → Reaches (of_places g) c a → c ≡ b → ⊥
  no_return {a} {b} m q o (one v) s = o a (rw s at v) (λ u. q (sym u)) (one m)
  no_return {a} {b} m q o (more {b = d} v r) s = go (same? d b) (no_return m q o r)
    where
      go : (d ≡ b) ⊎ (d ≡ b → ⊥) → (d ≡ b → ⊥) → ⊥
      go (inl u) rec = rec u
      go (inr u) rec = o d (rw s at v) u (reaches-trans r (one m))

  onward : {a : ℕ} → Ends rows a → Onward a
  onward (ends a f) b m q r = no_return m q (onward (f b (in_row m) q)) r refl

  -- so a way from a back to a begins with a move to a itself
  own : {a : ℕ} → Ends rows a → Reaches (of_places g) a a → T (test_bit (get_or rows a 0) a)
  own d (one m) = in_row m
  own {a} d (more {b = b} m r) = ⊎_elim (λ s. in_row (rw s at m)) (λ s. absurd (onward d b m s r)) (same? b a)

  pub own-recursive : AllEnd rows n → (a : ℕ) → a < n → test_bit (get_or rows a 0) a ≡ left_recursive? g a
  own-recursive d a l =
      same (test_bit (get_or rows a 0) a) (left_recursive? g a)
      (λ t. (left_recursive-iff g a).1 (one ((move-iff g a a).0 (rw (row_is g n rows h a l a) at t))))
      (λ t. own (d a l) ((left_recursive-iff g a).0 t))
