-- Laws of single bits: of `|`, of `&`, of a power of two, of a shift; a number that is not 0 has a bit, the lowest by its trailing zeros, the highest by its
-- leading zeros; numbers with the same bits are equal; subsets; a set without a member.
use mathlib.Core.Path.{◌≡◌, refl, sym, ap, ◌∙◌}
use mathlib.Core.Logic.{◌⊎◌, inl, inr, ⊎_elim, ◌↔◌}
use mathlib.Core.Bool.{Bool, true, false, ◌||◌, ◌&&◌, not}
use Prim.Native.Nat.{ℕ, zero, suc, ◌+◌, ◌-◌, ◌*◌, ◌/◌, ◌%◌, ◌^◌, ◌≤◌, ◌<◌, min, max}
use native.Mathlib.Nat.{one-mul, div-one, div_self, div-eq_of_lt, div-eq_of_lt-le, pow-suc, lt_of_lt_of_le, mod-eq_of_lt, mul-mod_left}
use native.Mathlib.Omega.{arith}
use native.Mathlib.Decide.{dec_lt}
use lib.Dec.{T, eqb, eqb→eq, eqb_refl}
use lib.Bits.{bit_or, bit_and, bit_xor, differ, xor_shr, xor_step, or_shr, or_step, and_shr, and_step}
use lib.Bits.{and_mask, or_add_and, xor_add_and, and_le_l, and_le_r, or_zero_l}
use lib.Count.{count_trailing_zeros, under, count_leading_zeros, leading_top}
use lib.Pow.{pow_pos, pow-lt, pow_mono, pow-add, shl_exact, shl-shr, shr-shr}
use lib.Arith.{digits_mod}
use borrow.Author.Tests.{eqb-true, eqb-false, eq-eqb, ne_eqb}
use Rattle.base.specs.Bits.{word_bits, bit, test_bit, set_bit, is_subset, HighestIs}
use Rattle.base.proofs.Booleans.{clash, same, and_T, T_and, or-T, T-or-l, T-or-r, T→true, and-all, and_none}

pub same? : (a b : ℕ) → (a ≡ b) ⊎ (a ≡ b → ⊥)
same? a b = go (eqb a b) refl
  where
    go : (t : Bool) → eqb a b ≡ t → (a ≡ b) ⊎ (a ≡ b → ⊥)
    go true e = inl (eqb-true a b e)
    go false e = inr (eqb-false a b e)

-- two tests of equal outcome
pub eqb-iff : (a b c d : ℕ) → (a ≡ b → c ≡ d) → (c ≡ d → a ≡ b) → eqb a b ≡ eqb c d
eqb-iff a b c d f g =
    ⊎_elim (λ e. rw (eq-eqb a b e, eq-eqb c d (f e))) (λ n. rw (ne_eqb a b n, ne_eqb c d (λ e. n (g e)))) (same? a b)

bit-lt : (x k : ℕ) → bit x k < 2
unfolding bit
bit-lt x k = omega arith

bit-or : (x y k : ℕ) → bit (bit_or x y) k ≡ max (bit x k) (bit y k)
unfolding bit
bit-or x y k = rw (or_shr, or_step) (digits_mod _ (omega arith))

bit-and : (x y k : ℕ) → bit (bit_and x y) k ≡ min (bit x k) (bit y k)
unfolding bit
bit-and x y k = rw (and_shr, and_step) (digits_mod _ (omega arith))

bit-pow-same : (k : ℕ) → bit (2 ^ k) k ≡ 1
unfolding bit
bit-pow-same k = rw (div_self (pow_pos k))

bit_high : (n x k : ℕ) → x < 2 ^ n → n ≤ k → bit x k ≡ 0
unfolding bit
bit_high n x k h l = rw (div-eq_of_lt (lt_of_lt_of_le h (pow_mono l)))

bit-pow-other : (j k : ℕ) → (j ≡ k → ⊥) → bit (2 ^ j) k ≡ 0
unfolding bit
bit-pow-other j k ne = ⊎_elim under (λ l. over (j - suc k) (omega arith)) (sides (dec_lt j k))
  where
    sides : Dec (j < k) → (j < k) ⊎ (k < j)
    sides (yes l) = inl l
    sides (no n) = inr (omega arith)

    under : j < k → 2 ^ j / 2 ^ k % 2 ≡ 0
    under l = rw (div-eq_of_lt (pow-lt l))

    over : (d : ℕ) → j ≡ suc d + k → 2 ^ j / 2 ^ k % 2 ≡ 0
    over d e = rw (e, pow-add, shl-shr, pow-suc, mul-mod_left)

or-test : (x y : ℕ) → x < 2 → y < 2 → eqb (max x y) 1 ≡ (eqb x 1 || eqb y 1)
or-test zero zero p q = refl
or-test zero (suc zero) p q = refl
or-test (suc zero) zero p q = refl
or-test (suc zero) (suc zero) p q = refl
or-test (suc (suc x)) y p q = absurd (omega arith)
or-test zero (suc (suc y)) p q = absurd (omega arith)
or-test (suc zero) (suc (suc y)) p q = absurd (omega arith)

-- 1 << k in w bits
pub shl_one : (w k : ℕ) → k < w → 1 * 2 ^ k % 2 ^ w ≡ 2 ^ k
shl_one w k h = shl_exact 1 k w (omega arith) (omega arith) ∙ one-mul _

-- ---- a word as a set
pub test-or : (x y k : ℕ) → test_bit (bit_or x y) k ≡ (test_bit x k || test_bit y k)
unfolding test_bit
test-or x y k = rw bit-or (or-test (bit x k) (bit y k) (bit-lt x k) (bit-lt y k))

test-pow : (j k : ℕ) → test_bit (2 ^ j) k ≡ eqb k j
unfolding test_bit
test-pow j k = eqb-iff _ _ _ _ to from
  where
    to : bit (2 ^ j) k ≡ 1 → k ≡ j
    to e = ⊎_elim (λ s. s) (λ n. absurd (omega (arith, bit-pow-other j k (λ s. n (sym s))))) (same? k j)

    from : k ≡ j → bit (2 ^ j) k ≡ 1
    from e = rw e (bit-pow-same j)

pub test-set : (x j k : ℕ) → test_bit (set_bit x j) k ≡ (test_bit x k || eqb k j)
unfolding set_bit
test-set x j k = rw (test-or, test-pow)

pub test-none : (k : ℕ) → test_bit 0 k ≡ false
unfolding test_bit
test-none k = rw (bit_high 0 0 k (omega arith) (omega arith))

-- n ones are the numbers below n
pub test_below : (n k : ℕ) → k < n → test_bit (2 ^ n - 1) k ≡ true
unfolding test_bit
test_below n k l = eq-eqb (bit (2 ^ n - 1) k) 1 (omega (arith, one, bit-pow-same k, bit-lt (2 ^ n - 1) k))
  where
    one : min (bit (2 ^ k) k) (bit (2 ^ n - 1) k) ≡ bit (2 ^ k) k
    one = sym (bit-and (2 ^ k) (2 ^ n - 1) k) ∙ ap (λ (x : ℕ). bit x k) (and_mask (2 ^ k) n ∙ mod-eq_of_lt (pow-lt l))

pub below-few : (n k : ℕ) → T (test_bit (2 ^ n - 1) k) → k < n
unfolding test_bit
below-few n k t = go (dec_lt k n)
  where
    go : Dec (k < n) → k < n
    go (yes l) = l
    go (no l) = absurd (rw (bit_high n (2 ^ n - 1) k (omega (arith, pow_pos n)) (omega arith)) at t)

-- a word has no member from word_bits on
pub test-high : (x k : ℕ) → x < 2 ^ word_bits → word_bits ≤ k → test_bit x k ≡ false
unfolding test_bit
test-high x k h l = rw (bit_high word_bits x k h l)

-- joining only adds
pub or-ge : (x y : ℕ) → x ≤ bit_or x y
or-ge x y = omega (arith, or_add_and x y, and_le_r x y)

pub or-ge-r : (x y : ℕ) → y ≤ bit_or x y
or-ge-r x y = omega (arith, or_add_and x y, and_le_l x y)

-- what a union holds came from one of its parts
pub or-pos : (x y : ℕ) → 0 < bit_or x y → (0 < x) ⊎ (0 < y)
or-pos x y h = ⊎_elim (λ e. inr (omega (arith, or_add_and x y))) (λ n. inl (omega arith)) (same? x 0)

-- a union is empty exactly if both sets are
pub or-none : (x y : ℕ) → eqb (bit_or x y) 0 ≡ (eqb x 0 && eqb y 0)
or-none x y = go (eqb x 0) refl (eqb y 0) refl
  where
    go : (a : Bool) → eqb x 0 ≡ a → (b : Bool) → eqb y 0 ≡ b → eqb (bit_or x y) 0 ≡ (a && b)
    go true e true f = let p = eqb-true x 0 e in let q = eqb-true y 0 f in eq-eqb (bit_or x y) 0 (rw (p, q) (or_zero_l 0))
    go true e false f = let q = eqb-false y 0 f in ne_eqb (bit_or x y) 0 (λ z. q (omega (arith, or-ge-r x y)))
    go false e b f = let p = eqb-false x 0 e in ne_eqb (bit_or x y) 0 (λ z. p (omega (arith, or-ge x y)))

-- ---- members in common
and-test : (x y : ℕ) → x < 2 → y < 2 → eqb (min x y) 1 ≡ (eqb x 1 && eqb y 1)
and-test zero zero p q = refl
and-test zero (suc zero) p q = refl
and-test (suc zero) zero p q = refl
and-test (suc zero) (suc zero) p q = refl
and-test (suc (suc x)) y p q = absurd (omega arith)
and-test zero (suc (suc y)) p q = absurd (omega arith)
and-test (suc zero) (suc (suc y)) p q = absurd (omega arith)

pub test-and : (x y k : ℕ) → test_bit (bit_and x y) k ≡ (test_bit x k && test_bit y k)
unfolding test_bit
test-and x y k = rw bit-and (and-test (bit x k) (bit y k) (bit-lt x k) (bit-lt y k))

-- ---- shifts
pub test-shr : (x a k : ℕ) → test_bit (x / 2 ^ a) k ≡ test_bit x (a + k)
unfolding test_bit bit
test-shr x a k = ap (λ (y : ℕ). eqb (y % 2) 1) (shr-shr x a k)

test-half : (x k : ℕ) → test_bit x (suc k) ≡ test_bit (x / 2) k
test-half x k = let e : 1 + k ≡ suc k = omega arith in rw (← e) (sym (test-shr x 1 k))

test_zero : (x : ℕ) → test_bit x 0 ≡ eqb (x % 2) 1
unfolding test_bit bit
test_zero x = ap (λ (y : ℕ). eqb (y % 2) 1) (div-one x)

-- ---- a number that is not 0 has a member, and the number of its trailing zeros is the lowest
pub trailing-none : (d x k : ℕ) → k < count_trailing_zeros d x → test_bit x k ≡ false
unfolding count_trailing_zeros
trailing-none zero x k h = absurd (omega arith)
trailing-none (suc d) x k h = go (x % 2) refl k h (λ k. trailing-none d (x / 2) k)
  where
    go : (r : ℕ) → x % 2 ≡ r → (k : ℕ) → k < under r (count_trailing_zeros d (x / 2))
        → ((k : ℕ) → k < count_trailing_zeros d (x / 2) → test_bit (x / 2) k ≡ false) → test_bit x k ≡ false
    go zero e zero h ih = test_zero x ∙ ap (λ (y : ℕ). eqb y 1) e
    go zero e (suc k) h ih = test-half x k ∙ ih k (omega arith)
    go (suc r) e k h ih = absurd (omega arith)

pub trailing-found : (d x : ℕ) → 0 < x → x < 2 ^ d → test_bit x (count_trailing_zeros d x) ≡ true
unfolding count_trailing_zeros
trailing-found zero x h k = absurd (omega arith)
trailing-found (suc d) x h k = go (x % 2) refl (λ a b. trailing-found d (x / 2) a b)
  where
    go : (r : ℕ) → x % 2 ≡ r → (0 < x / 2 → x / 2 < 2 ^ d → test_bit (x / 2) (count_trailing_zeros d (x / 2)) ≡ true)
        → test_bit x (under r (count_trailing_zeros d (x / 2))) ≡ true
    go zero e ih = test-half x _ ∙ ih (omega arith) (omega arith)
    go (suc r) e ih = test_zero x ∙ eq-eqb (x % 2) 1 (omega arith)

-- ---- numbers with the same bits are equal
same_bit : (a b : ℕ) → a < 2 → b < 2 → eqb a 1 ≡ eqb b 1 → a ≡ b
same_bit zero zero p q e = refl
same_bit zero (suc zero) p q e = clash (cc)
same_bit (suc zero) zero p q e = clash (cc)
same_bit (suc zero) (suc zero) p q e = refl
same_bit (suc (suc a)) b p q e = absurd (omega arith)
same_bit zero (suc (suc b)) p q e = absurd (omega arith)
same_bit (suc zero) (suc (suc b)) p q e = absurd (omega arith)

bits-same : (n x y : ℕ) → x ≤ n → y ≤ n → ((k : ℕ) → bit x k ≡ bit y k) → x ≡ y
unfolding bit
bits-same zero x y h l e = omega arith
bits-same (suc n) x y h l e =
    let low : x / 1 % 2 ≡ y / 1 % 2 = e 0 in
    let high : x / 2 ≡ y / 2 = bits-same n (x / 2) (y / 2) (omega arith) (omega arith) (λ k. rw (shr-shr x 1 k, shr-shr y 1 k) (e (1 + k))) in
    omega arith

sets_same : (x y : ℕ) → ((k : ℕ) → test_bit x k ≡ test_bit y k) → x ≡ y
unfolding test_bit
sets_same x y e = bits-same (x + y) x y (omega arith) (omega arith) (λ k. same_bit (bit x k) (bit y k) (bit-lt x k) (bit-lt y k) (e k))

-- ---- subsets
pub subset_iff : (x y : ℕ) → T (is_subset x y) ↔ ((k : ℕ) → T (test_bit x k) → T (test_bit y k))
unfolding is_subset
subset_iff x y = (to, from)
  where
    to : T (eqb (bit_or x y) y) → (k : ℕ) → T (test_bit x k) → T (test_bit y k)
    to t k s =
        let e : test_bit y k ≡ (test_bit x k || test_bit y k) = ap (λ (z : ℕ). test_bit z k) (sym (eqb→eq (bit_or x y) y t)) ∙ test-or x y k in
        rw e (T-or-l (test_bit x k) (test_bit y k) s)

    from : ((k : ℕ) → T (test_bit x k) → T (test_bit y k)) → T (eqb (bit_or x y) y)
    from h =
        let e : bit_or x y ≡ y = sets_same (bit_or x y) y
        (λ k. test-or x y k ∙ same (test_bit x k || test_bit y k) (test_bit y k) (λ t. ⊎_elim (h k) (λ s. s) (or-T (test_bit x k) (test_bit y k) t))
        (T-or-r (test_bit x k) (test_bit y k))) in
        rw e (eqb_refl y)

pub subset-none : (y : ℕ) → is_subset 0 y ≡ true
subset-none y = T→true (is_subset 0 y) ((subset_iff 0 y).1 (λ k t. absurd (rw test-none at t)))

pub subset-set : (x k y : ℕ) → is_subset (set_bit x k) y ≡ (is_subset x y && test_bit y k)
subset-set x k y = same (is_subset (set_bit x k) y) (is_subset x y && test_bit y k) to from
  where
    to : T (is_subset (set_bit x k) y) → T (is_subset x y && test_bit y k)
    to t =
        let h : (j : ℕ) → T (test_bit x j || eqb j k) → T (test_bit y j) = λ j s. (subset_iff (set_bit x k) y).0 t j (rw test-set s) in
        T_and (is_subset x y) (test_bit y k) ((subset_iff x y).1 (λ j s. h j (T-or-l (test_bit x j) (eqb j k) s)))
        (h k (T-or-r (test_bit x k) (eqb k k) (eqb_refl k)))

    from : T (is_subset x y && test_bit y k) → T (is_subset (set_bit x k) y)
    from t =
        let s = and_T (is_subset x y) (test_bit y k) t in
        (subset_iff (set_bit x k) y).1 (λ j m. elim (or-T (test_bit x j) (eqb j k) (rw test-set at m))
        [ inl u ↦ (subset_iff x y).0 s.0 j u | inr u ↦ rw (eqb→eq j k u) s.1 ])

-- ---- the opposite of a word: every bit turned
differ-one : (a : ℕ) → a < 2 → (differ a 1 < 2) × (eqb (differ a 1) 1 ≡ not (eqb a 1))
differ-one zero h = (omega arith, refl)
differ-one (suc zero) h = (omega arith, refl)
differ-one (suc (suc a)) h = absurd (omega arith)

pub test-opposite : (x k : ℕ) → k < word_bits → test_bit (bit_xor x (2 ^ word_bits - 1)) k ≡ not (test_bit x k)
unfolding test_bit bit
test-opposite x k l =
    let b : bit (2 ^ word_bits - 1) k ≡ 1 = eqb-true (bit (2 ^ word_bits - 1) k) 1 (test_below word_bits k l) in
    let d : (differ (bit x k) 1 < 2) × (eqb (differ (bit x k) 1) 1 ≡ not (eqb (bit x k) 1)) = differ-one (bit x k) (bit-lt x k) in
    let e : bit (bit_xor x (2 ^ word_bits - 1)) k ≡ differ (bit x k) 1
    = rw (xor_shr, xor_step, b) (digits_mod _ d.0) in
    ap (λ (y : ℕ). eqb y 1) e ∙ d.1

-- ---- a set without one of its members
differ-less : (a : ℕ) → a < 2 → (differ a 0 ≡ a) × (a ≡ 1 → differ a 1 ≡ 0)
differ-less zero h = (refl, λ e. clash e)
differ-less (suc zero) h = (refl, λ e. refl)
differ-less (suc (suc a)) h = absurd (omega arith)

pub test-without : (x k j : ℕ) → test_bit x k ≡ true → test_bit (bit_xor x (2 ^ k)) j ≡ (test_bit x j && not (eqb j k))
unfolding test_bit bit
test-without x k j m = go (same? j k)
  where
    turned : (d : ℕ) → d < 2 → differ (bit x j) (bit (2 ^ k) j) ≡ d → eqb (bit (bit_xor x (2 ^ k)) j) 1 ≡ eqb d 1
    turned d l e = let q : bit (bit_xor x (2 ^ k)) j ≡ d = rw (xor_shr, xor_step, e) (digits_mod _ l) in ap (λ (y : ℕ). eqb y 1) q

    other : differ (bit x j) 0 ≡ bit x j
    other = (differ-less (bit x j) (bit-lt x j)).0

    here : j ≡ k → differ (bit x j) 1 ≡ 0
    here e = (differ-less (bit x j) (bit-lt x j)).1 (rw e (eqb-true (bit x k) 1 m))

    go : (j ≡ k) ⊎ (j ≡ k → ⊥) → eqb (bit (bit_xor x (2 ^ k)) j) 1 ≡ (eqb (bit x j) 1 && not (eqb j k))
    go (inl e) =
        let b : bit (2 ^ k) j ≡ 1 = rw e (bit-pow-same k) in
        turned 0 (omega arith) (rw b (here e)) ∙ sym (ap (λ (b : Bool). eqb (bit x j) 1 && not b) (eq-eqb j k e) ∙ and_none (eqb (bit x j) 1))
    go (inr n) =
        let b : bit (2 ^ k) j ≡ 0 = bit-pow-other k j (λ e. n (sym e)) in
        turned (bit x j) (bit-lt x j) (rw b other) ∙ sym (ap (λ (b : Bool). eqb (bit x j) 1 && not b) (ne_eqb j k n) ∙ and-all (eqb (bit x j) 1))

pub without-less : (x k : ℕ) → test_bit x k ≡ true → bit_xor x (2 ^ k) < x
without-less x k m = let e = sets_same (bit_and x (2 ^ k)) (2 ^ k) member in omega (arith, e, xor_add_and x (2 ^ k), pow_pos k)
  where
    member : (j : ℕ) → test_bit (bit_and x (2 ^ k)) j ≡ test_bit (2 ^ k) j
    member j = go (same? j k)
      where
        go : (j ≡ k) ⊎ (j ≡ k → ⊥) → test_bit (bit_and x (2 ^ k)) j ≡ test_bit (2 ^ k) j
        go (inl e) = let z : test_bit x j ≡ true = rw e m in test-and x (2 ^ k) j ∙ ap (λ (b : Bool). b && test_bit (2 ^ k) j) z
        go (inr n) =
            let z : test_bit (2 ^ k) j ≡ false = test-pow k j ∙ ne_eqb j k n in
            test-and x (2 ^ k) j ∙ ap (λ (b : Bool). test_bit x j && b) z ∙ and_none (test_bit x j) ∙ sym z

-- ---- a number that is not 0 has a highest member, as far below the top as it has leading zeros
pub leading-few : (x : ℕ) → 0 < x → x < 2 ^ word_bits → count_leading_zeros word_bits x < word_bits
leading-few x h l = let (j, q, least, most) = leading_top word_bits x h l in omega arith

pub leading-highest : (x r : ℕ) → 0 < x → x < 2 ^ word_bits → count_leading_zeros word_bits x + suc r ≡ word_bits → HighestIs x r
unfolding test_bit bit
leading-highest x r h l e =
    let (j, q, least, most) = leading_top word_bits x h l in
    let s : r ≡ j = omega arith in
    let one : x / 2 ^ j ≡ 1 = div-eq_of_lt-le (2 ^ j) (omega arith) (omega (arith, pow-suc 2 j)) in
    rw s (record {
      small = omega arith;
      member = eq-eqb (x / 2 ^ j % 2) 1 (rw one);
      last = λ k m. rw (bit_high (suc j) x k most (omega arith));
    })
