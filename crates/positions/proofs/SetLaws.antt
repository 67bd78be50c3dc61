-- Laws of sets of positions by value: what the empty set, a set with one member more and a union hold; when two sets meet.
use mathlib.Core.Path.{◌≡◌, refl, sym, ap, ◌∙◌}
use mathlib.Core.Logic.{◌⊎◌, inl, inr, ⊎_elim}
use mathlib.Core.Bool.{Bool, true, false, false≢true, ◌||◌, not}
use mathlib.Core.List.{List}
use Prim.Native.Nat.{ℕ, zero, suc, ◌+◌, ◌-◌, ◌*◌, ◌/◌, ◌%◌, ◌^◌, ◌≤◌, ◌<◌}
use native.Mathlib.Omega.{arith}
use native.Mathlib.Decide.{dec_lt}
use lib.ListN.{length, get_or, length-set}
use lib.Seq.{get_or-set_same, get_or-set_other}
use lib.Bits.{bit_or, bit_xor, and_le_l}
use lib.Count.{count_trailing_zeros}
use lib.Dec.{T, eqb, ltb}
use borrow.Author.Tests.{ne_eqb, eqb-false, not-true, not-false, ltb-true, lt-ltb}
use Rattle.base.specs.Bits.{word_bits, test_bit}
use Rattle.base.proofs.Bits.{same?, eqb-iff, test-or, test-and, test-set, test-none, test-high, or-ge, or-ge-r, or-pos, trailing-found}
use Rattle.base.proofs.Bits.{test-opposite}
use Rattle.base.proofs.Booleans.{T→true, true→T, and_T, T_and, or-none}
use Rattle.positions.specs.inside.Positions.{position_count, set_words, empty_set, member, with_of, union_of, meets_of, all_words, common, opposite_of}
use Rattle.positions.specs.inside.Positions.{Full, NextOf}
use Rattle.positions.specs.inside.Members.{LeastFrom}
use Rattle.std.specs.Prelude.{Option, Some, None, MatchOption, IsTrue}

-- every word of s has word_bits bits
abbrev pub Fit : List ℕ → Type 0
Fit s = (k : ℕ) → get_or s k 0 < 2 ^ word_bits

-- ---- the empty set
empty-word : (i : ℕ) → get_or empty_set i 0 ≡ 0
empty-word zero = refl
empty-word (suc zero) = refl
empty-word (suc (suc zero)) = refl
empty-word (suc (suc (suc zero))) = refl
empty-word (suc (suc (suc (suc zero)))) = refl
empty-word (suc (suc (suc (suc (suc i))))) = refl

pub member-empty : (j : ℕ) → member empty_set j ≡ false
unfolding member
member-empty j = rw (empty-word (j / word_bits)) (test-none _)

-- ---- one member more
pub length-with : (s : List ℕ) (k : ℕ) → length (with_of s k) ≡ length s
unfolding with_of
length-with s k = length-set s _ _

pub member-with : (s : List ℕ) (k j : ℕ) → k < length s * word_bits → member (with_of s k) j ≡ (member s j || eqb j k)
unfolding member with_of
member-with s k j h = ⊎_elim here there (same? (j / word_bits) (k / word_bits))
  where
    there : (j / word_bits ≡ k / word_bits → ⊥) → member (with_of s k) j ≡ (member s j || eqb j k)
    there ne = rw (get_or-set_other s (k / word_bits) (j / word_bits) _ 0 ne, ne_eqb j k (λ e. ne (ap (λ (x : ℕ). x / word_bits) e))) (sym (or-none _))

    here : j / word_bits ≡ k / word_bits → member (with_of s k) j ≡ (member s j || eqb j k)
    here e = rw (
      e,
      get_or-set_same s (k / word_bits) _ 0 (omega arith),
      test-set,
      eqb-iff (j % word_bits) (k % word_bits) j k (λ f. omega arith) (λ f. omega arith),
    )

-- ---- unions
pub length_union : (a b : List ℕ) → length (union_of a b) ≡ 5
unfolding union_of
length_union a b = refl

union-word : (a b : List ℕ) (i : ℕ) → i < set_words → get_or (union_of a b) i 0 ≡ bit_or (get_or a i 0) (get_or b i 0)
unfolding union_of
union-word a b zero h = refl
union-word a b (suc zero) h = refl
union-word a b (suc (suc zero)) h = refl
union-word a b (suc (suc (suc zero))) h = refl
union-word a b (suc (suc (suc (suc zero)))) h = refl
union-word a b (suc (suc (suc (suc (suc i))))) h = absurd (omega arith)

pub member_union : (a b : List ℕ) (j : ℕ) → j < position_count → member (union_of a b) j ≡ (member a j || member b j)
unfolding member
member_union a b j h = rw (union-word a b (j / word_bits) (omega arith)) (test-or _ _ _)

-- ---- meeting
-- bit k of word i is position i * word_bits + k
at-word : (s : List ℕ) (i k : ℕ) → k < word_bits → T (test_bit (get_or s i 0) k) → T (member s (i * word_bits + k))
unfolding member
at-word s i k h t =
    let d : (i * word_bits + k) / word_bits ≡ i = omega arith in
    let m : (i * word_bits + k) % word_bits ≡ k = omega arith in
    rw (d, m) t

-- the bits of all five words, and the words
module _ (word : ℕ → ℕ) where
  abbrev two : ℕ
  two = bit_or (word 0) (word 1)

  abbrev three : ℕ
  three = bit_or two (word 2)

  abbrev four : ℕ
  four = bit_or three (word 3)

  pub word-le : (i : ℕ) → i < set_words → word i ≤ all_words word
  word-le i l = go i l
    where
      last : four ≤ all_words word
      last = or-ge four (word 4)

      third : three ≤ all_words word
      third = omega (arith, or-ge three (word 3), last)

      second : two ≤ all_words word
      second = omega (arith, or-ge two (word 2), third)

      go : (i : ℕ) → i < set_words → word i ≤ all_words word
      go zero l = omega (arith, or-ge (word 0) (word 1), second)
      go (suc zero) l = omega (arith, or-ge-r (word 0) (word 1), second)
      go (suc (suc zero)) l = omega (arith, or-ge-r two (word 2), third)
      go (suc (suc (suc zero))) l = omega (arith, or-ge-r three (word 3), last)
      go (suc (suc (suc (suc zero)))) l = or-ge-r four (word 4)
      go (suc (suc (suc (suc (suc i))))) l = absurd (omega arith)

  -- some word is not 0
  abbrev HeldIn : Type 0
  HeldIn = (i : ℕ) × (i < set_words) × (0 < word i)

  word_held : 0 < all_words word → HeldIn
  word_held h = go (or-pos four (word 4) h)
    where
      first : (0 < word 0) ⊎ (0 < word 1) → HeldIn
      first (inl h) = (0, omega arith, h)
      first (inr h) = (1, omega arith, h)

      second : (0 < two) ⊎ (0 < word 2) → HeldIn
      second (inl h) = first (or-pos (word 0) (word 1) h)
      second (inr h) = (2, omega arith, h)

      third : (0 < three) ⊎ (0 < word 3) → HeldIn
      third (inl h) = second (or-pos two (word 2) h)
      third (inr h) = (3, omega arith, h)

      go : (0 < four) ⊎ (0 < word 4) → HeldIn
      go (inl h) = third (or-pos three (word 3) h)
      go (inr h) = (4, omega arith, h)

module _ (a b : List ℕ) where
  abbrev Met : Type 0
  Met = (j : ℕ) × (j < position_count) × T (member a j) × T (member b j)

  -- a word that is not 0 has its lowest bit
  met : Fit a → HeldIn (common a b) → Met
  met w (i, l, h) =
      let x = common a b i in
      let k = count_trailing_zeros word_bits x in
      let f : x < 2 ^ word_bits = omega (arith, w i, and_le_l (get_or a i 0) (get_or b i 0)) in
      let t : T (test_bit x k) = true→T _ (trailing-found word_bits x h f) in
      let u : T (test_bit (get_or a i 0) k)
      × T (test_bit (get_or b i 0) k) = and_T (test_bit (get_or a i 0) k) (test_bit (get_or b i 0) k) (rw test-and at t) in
      low (dec_lt k word_bits) u
    where
      low : {k : ℕ} → Dec (k < word_bits) → T (test_bit (get_or a i 0) k) × T (test_bit (get_or b i 0) k) → Met
      low {k} (yes m) u = (i * word_bits + k, omega arith, at-word a i k m u.0, at-word b i k m u.1)
      low {k} (no m) u = absurd (rw (test-high (get_or a i 0) k (w i) (omega arith)) at u.0)

  -- sets that meet share a member; the words must have word_bits bits, for a higher bit is no position
  pub meets-out : Fit a → T (meets_of a b) → (j : ℕ) × (j < position_count) × T (member a j) × T (member b j)
  unfolding meets_of
  meets-out w t = met w (word_held (common a b)
      (⊎_elim (λ z. absurd (eqb-false _ 0 (not-true _ (T→true _ t)) z)) (λ n. omega arith) (same? (all_words (common a b)) 0)))

  pub meets-in : (j : ℕ) → j < position_count → T (member a j) → T (member b j) → T (meets_of a b)
  unfolding member meets_of
  meets-in j l s t =
      let i = j / word_bits in
      let k = j % word_bits in
      let u : T (test_bit (common a b i) k) = rw test-and (T_and (member a j) (member b j) s t) in
      let n : common a b i ≡ 0 → ⊥ = λ z. absurd (rw (z, test-none k) at u) in
      rw (ne_eqb (all_words (common a b)) 0 (λ z. n (omega (arith, word-le (common a b) i (omega arith))))) tt

-- ---- what a set does not hold
opposite-word : (s : List ℕ) (i : ℕ) → i < set_words → get_or (opposite_of s) i 0 ≡ bit_xor (get_or s i 0) (2 ^ word_bits - 1)
unfolding opposite_of
opposite-word s zero l = refl
opposite-word s (suc zero) l = refl
opposite-word s (suc (suc zero)) l = refl
opposite-word s (suc (suc (suc zero))) l = refl
opposite-word s (suc (suc (suc (suc zero)))) l = refl
opposite-word s (suc (suc (suc (suc (suc i))))) l = absurd (omega arith)

pub member-opposite : (s : List ℕ) (j : ℕ) → j < position_count → member (opposite_of s) j ≡ not (member s j)
unfolding member
member-opposite s j l = ap (λ (x : ℕ). test_bit x (j % word_bits)) (opposite-word s (j / word_bits) (omega arith))
    ∙ test-opposite (get_or s (j / word_bits) 0) (j % word_bits) (omega arith)

-- what stands before the first position that is missing is held, and that one is not
module _ (s c : List ℕ) (from n m : ℕ) (h : n < position_count) (e : c ≡ opposite_of s) (x : NextOf c from m) where
  missing : (k : ℕ) → k < position_count → member c k ≡ not (member s k)
  missing k l = ap (λ (l : List ℕ). member l k) e ∙ member-opposite s k l

  before : ((k : ℕ) → from ≤ k → k ≤ n → member s k ≡ true) → Dec (n < m) → n < m
  before f (yes l) = l
  before f (no l) =
      let z : true ≡ false =
      sym (x.found (omega arith)) ∙ (missing m (omega arith) ∙ ap not (f m (x.above (omega arith)) (omega arith))) in
      absurd (false≢true (sym z))

  pub full_is : Full (ltb n m) s from n
  full_is = record {
    all = λ q k a b. let z = ltb-true n m q in not-false (member s k) (sym (missing k (omega arith)) ∙ x.none k a (omega arith));
    only = λ f. lt-ltb n m (before f (dec_lt n m));
  }

-- the search for that one, and what is said of it
module _ (s c : List ℕ) (from n : ℕ) (h : n < position_count) (e : c ≡ opposite_of s) {r : Bool} (P : ℕ → Type 0) (says : (m : ℕ) → P m → r ≡ ltb n m) where
  pub full-by : (o : Option ℕ) → LeastFrom c from o → MatchOption o (IsTrue r) P → Full r s from n
  full-by None x t = rw (t ∙ sym (lt-ltb n position_count h)) (full_is s c from n position_count h e x)
  full-by (Some m) x p = rw (says m p) (full_is s c from n m h e x.1)
