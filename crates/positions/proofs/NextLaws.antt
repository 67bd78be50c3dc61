-- The search for the least member: in one word by its trailing zeros, then word by word.
use mathlib.Core.Path.{◌≡◌, sym, ◌∙◌, ap}
use mathlib.Core.Bool.{true, false, true≢false}
use mathlib.Core.List.{List}
use Prim.Native.Nat.{ℕ, ◌+◌, ◌-◌, ◌*◌, ◌/◌, ◌%◌, ◌^◌, ◌≤◌, ◌<◌}
use native.Mathlib.Nat.{div-le_self}
use native.Mathlib.Omega.{arith}
use native.Mathlib.Decide.{dec_lt}
use lib.ListN.{get_or}
use lib.Count.{count_trailing_zeros}
use Rattle.base.specs.Bits.{word_bits, test_bit}
use Rattle.base.proofs.Bits.{test-shr, test-none, test-high, trailing-none, trailing-found}
use Rattle.positions.specs.inside.Positions.{position_count, set_words, member, FromBit, NextOf}

-- ---- one word
module _ (x k : ℕ) where
  shifted : (m : ℕ) → k ≤ m → test_bit x m ≡ test_bit (x / 2 ^ k) (m - k)
  shifted m h = let e : m ≡ k + (m - k) = omega arith in ap (λ (z : ℕ). test_bit x z) e ∙ sym (test-shr x k (m - k))

  pub from-none : x / 2 ^ k ≡ 0 → FromBit x k word_bits
  from-none e =
      record {
        most = omega arith;
        above = λ a. absurd (omega arith);
        found = λ a. absurd (omega arith);
        none = λ m a b. shifted m a ∙ ap (λ (z : ℕ). test_bit z (m - k)) e ∙ test-none (m - k);
      }

  pub from_some : {t : ℕ} → x < 2 ^ word_bits → (x / 2 ^ k ≡ 0 → ⊥) → t ≡ count_trailing_zeros word_bits (x / 2 ^ k)
      → (k + t < word_bits) × FromBit x k (k + t)
  from_some {t} w n e = (
    low (dec_lt (k + t) word_bits),
    record {
      most = omega (arith, low (dec_lt (k + t) word_bits));
      above = λ _. omega arith;
      found = λ _. here;
      none = λ m a b. shifted m a ∙ trailing-none word_bits (x / 2 ^ k) (m - k) (omega arith);
    },
  )
    where
      here : test_bit x (k + t) ≡ true
      here = sym (test-shr x k t) ∙ (rw e (trailing-found word_bits (x / 2 ^ k) (omega arith) (omega (arith, div-le_self x (2 ^ k)))))

      low : Dec (k + t < word_bits) → k + t < word_bits
      low (yes l) = l
      low (no l) = absurd (true≢false (sym here ∙ test-high x (k + t) w (omega arith)))

-- ---- word by word
-- no member from `from` up to v
pub Clear : List ℕ → ℕ → ℕ → Type 0
Clear s from v = (k : ℕ) → from ≤ k → k < v → member s k ≡ false

pub clear_none : (s : List ℕ) (from v : ℕ) → v ≡ from → Clear s from v
unfolding Clear
clear_none s from v e k a b = absurd (omega arith)

-- nothing found below position_count
pub all-clear : (s : List ℕ) (from v : ℕ) → position_count ≤ v → Clear s from v → NextOf s from position_count
unfolding Clear
all-clear s from v h c =
    record { most = omega arith; above = λ l. absurd (omega arith); found = λ l. absurd (omega arith); none = λ k a b. c k a (omega arith) }

pub none_left : (s : List ℕ) (from : ℕ) → position_count ≤ from → NextOf s from position_count
none_left s from h = all-clear s from from h (clear_none s from from (omega arith))

module _ (s : List ℕ) (from v k r : ℕ) (c : Clear s from (v * word_bits + k)) (b : FromBit (get_or s v 0) k r) where
  upto : Clear s from (v * word_bits + r)
  unfolding Clear member
  upto m a e = go (dec_lt m (v * word_bits + k))
    where
      go : Dec (m < v * word_bits + k) → member s m ≡ false
      go (yes l) = c m a l
      go (no l) = let most = b.most in let q : m / word_bits ≡ v = omega arith in rw q (b.none (m % word_bits) (omega arith) (omega arith))

  pub word-found : from ≤ v * word_bits + k → v < set_words → r < word_bits → NextOf s from (v * word_bits + r)
  unfolding Clear member
  word-found l h g =
      let d : (v * word_bits + r) / word_bits ≡ v = omega arith in
      let m : (v * word_bits + r) % word_bits ≡ r = omega arith in
      let a = b.above g in
      record { most = omega arith; above = λ _. omega arith; found = λ _. rw (d, m) (b.found g); none = upto }

  pub word-clear : word_bits ≤ r → Clear s from ((v + 1) * word_bits + 0)
  unfolding Clear
  word-clear g m a e = upto m a (let most = b.most in omega arith)
