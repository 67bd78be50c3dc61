-- The nonterminals whose row holds them as a set: gathered row by row, and its lowest member is what the search for the lowest finds.
use mathlib.Core.Path.{◌≡◌, refl, sym, ap, ◌∙◌}
use mathlib.Core.Logic.{⊎_elim}
use mathlib.Core.Bool.{Bool, true, false, ◌&&◌, ◌||◌}
use mathlib.Core.Option.{none, some}
use mathlib.Core.List.{List}
use Prim.Native.Nat.{ℕ, ◌+◌, ◌^◌, ◌≤◌, ◌<◌}
use native.Mathlib.Omega.{arith}
use native.Mathlib.Decide.{dec_le, dec_lt}
use lib.ListN.{get_or}
use lib.Bits.{bit_or, bit_and}
use lib.Count.{count_trailing_zeros}
use lib.Dec.{T, ltb, eqb}
use borrow.Author.Tests.{lt-ltb, le-ltb, eq-eqb, ne_eqb}
use Rattle.std.specs.Prelude.{Ok, Err}
use Rattle.base.specs.Bits.{word_bits, test_bit, set_bit}
use Rattle.base.specs.Search.{lowest_from, this, nothing}
use Rattle.base.proofs.Bits.{same?, test-or, test-and, test-set, test-none, trailing-none, trailing-found}
use Rattle.base.proofs.Booleans.{and_T, or-none, and-all, and_none, true→T, false→¬T}
use Rattle.base.proofs.Lowest.{lowest-is, lowest-one}
use Rattle.number.specs.declared.Refusal.TheVariants.{LeftRecursive}
use Rattle.soundness.specs.Check.{refuse_at}
use Rattle.soundness.specs.inside.Own.{OwnIs}

-- ---- what a search finds, by what is found
module _ (p : ℕ → Bool) (n : ℕ) where
  abbrev Passing : ℕ → Type 0
  Passing a = T (p a) × (a < n)

  pub lowest-absent : ((a : ℕ) → a < n → p a ≡ false) → lowest_from p 0 n ≡ none
  lowest-absent h =
      lowest-one {P = Passing} (lowest-is Passing p n (λ a l t. (t, l)) (λ a x. x)) (nothing (λ c x. false→¬T (p c) (h c x.1) x.0))

  pub lowest-at : (a : ℕ) → a < n → p a ≡ true → ((c : ℕ) → c < a → p c ≡ false) → lowest_from p 0 n ≡ some a
  lowest-at a l e h =
      lowest-one {P = Passing} (lowest-is Passing p n (λ a l t. (t, l)) (λ a x. x)) (this a (true→T (p a) e, l) (λ c x. go c x (dec_le a c)))
    where
      go : (c : ℕ) → Passing c → Dec (a ≤ c) → a ≤ c
      go c x (yes m) = m
      go c x (no m) = absurd (false→¬T (p c) (h c (omega arith)) x.0)

-- ---- gathered row by row
module _ (rows : List ℕ) where
  pub own-none : OwnIs rows 0 0
  unfolding OwnIs
  own-none a = rw (test-none, le-ltb a 0 (omega arith))

  -- at the next row's own number the new set is told by that row, elsewhere by the old set
  pub own-more : (n x : ℕ) → OwnIs rows n x → {y : ℕ} → y ≡ set_bit 0 n → OwnIs rows (n + 1) (bit_or x (bit_and (get_or rows n 0) y))
  unfolding OwnIs
  own-more n x h e k = rw (e, test-or, test-and, test-set, test-none, h k) (⊎_elim here elsewhere (same? k n))
    where
      here : k ≡ n
          → ((ltb k n && test_bit (get_or rows k 0) k) || (test_bit (get_or rows n 0) k && (false || eqb k n)))
          ≡ (ltb k (n + 1) && test_bit (get_or rows k 0) k)
      here q = rw (q, le-ltb n n (omega arith), eq-eqb n n refl, lt-ltb n (n + 1) (omega arith)) (and-all (test_bit (get_or rows n 0) n))

      before : (k ≡ n → ⊥) → Dec (k < n) → ltb k n ≡ ltb k (n + 1)
      before q (yes l) = rw (lt-ltb k n l, lt-ltb k (n + 1) (omega arith))
      before q (no l) = rw (le-ltb k n (omega arith), le-ltb k (n + 1) (omega arith))

      elsewhere : (k ≡ n → ⊥)
          → ((ltb k n && test_bit (get_or rows k 0) k) || (test_bit (get_or rows n 0) k && (false || eqb k n)))
          ≡ (ltb k (n + 1) && test_bit (get_or rows k 0) k)
      elsewhere q = rw (ne_eqb k n q, and_none, or-none) (ap (λ (b : Bool). b && test_bit (get_or rows k 0) k) (before q (dec_lt k n)))

  -- with as many rows, however their number is worked out
  pub own-all : (x : ℕ) {m n : ℕ} → m ≡ n → OwnIs rows m x → OwnIs rows n x
  own-all x e h = rw (← e) h

-- ---- the verdict
module _ (rows : List ℕ) (n x : ℕ) (h : OwnIs rows n x) where
  abbrev holds : ℕ → Bool
  holds a = test_bit (get_or rows a 0) a

  own-within : (a : ℕ) → a < n → test_bit x a ≡ holds a
  unfolding OwnIs
  own-within a l = h a ∙ rw (lt-ltb a n l)

  own_below : (a : ℕ) → test_bit x a ≡ true → a < n
  unfolding OwnIs
  own_below a e = go (dec_lt a n)
    where
      go : Dec (a < n) → a < n
      go (yes l) = l
      go (no l) = absurd (rw (le-ltb a n (omega arith)) at (and_T (ltb a n) (holds a) (true→T (ltb a n && holds a) (sym (h a) ∙ e))).0)

  pub own-sound : x ≡ 0 → Ok tt ≡ refuse_at LeftRecursive (lowest_from holds 0 n)
  own-sound e =
      ap (refuse_at LeftRecursive) (sym (lowest-absent holds n (λ a l. sym (own-within a l) ∙ ap (λ (y : ℕ). test_bit y a) e ∙ test-none a)))

  pub own-refused : 0 < x → x < 2 ^ word_bits → {r : ℕ} → r ≡ count_trailing_zeros word_bits x
      → Err (LeftRecursive r) ≡ refuse_at LeftRecursive (lowest_from holds 0 n)
  own-refused l m {r} e =
      let found : test_bit x r ≡ true = rw e (trailing-found word_bits x l m) in
      let low : r < n = own_below r found in
      ap (refuse_at LeftRecursive)
      (sym (lowest-at holds n r low (sym (own-within r low) ∙ found)
      (λ c k. sym (own-within c (omega arith)) ∙ trailing-none word_bits x c (omega (arith, k, e)))))
