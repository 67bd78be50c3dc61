-- Laws of sets of positions in a list of words: what a set that is put or joined changes, and that the sum of the words grows with a join.
use mathlib.Core.Path.{◌≡◌, refl, ◌∙◌}
use mathlib.Core.Logic.{◌⊎◌, inl, inr, ⊎_elim}
use mathlib.Core.Bool.{Bool, ◌||◌}
use mathlib.Core.List.{List, [], ◌∷◌}
use Prim.Native.Nat.{ℕ, zero, suc, ◌+◌, ◌*◌, ◌/◌, ◌^◌, ◌≤◌, ◌<◌}
use native.Mathlib.Omega.{arith}
use lib.ListN.{length, get_or, set, length-set}
use lib.Seq.{sets, length-sets, get_or-set_same, get_or-set_other}
use Rattle.base.specs.Bits.{word_bits}
use Rattle.positions.specs.inside.Positions.{position_count, set_words, five, member, union_of}
use Rattle.positions.specs.inside.Words.{member_at, set_at, put_at, total, Joined}
use Rattle.positions.proofs.SetLaws.{Fit, member_union}

-- ---- words that are written
sets-out : (ws : List ℕ) (at : ℕ) (vs : List ℕ) (k : ℕ) → (k < at) ⊎ (at + length vs ≤ k) → get_or (sets ws at vs) k 0 ≡ get_or ws k 0
sets-out ws at [] k h = refl
sets-out ws at (v ∷ vs) k h =
    sets-out (set ws at v) (suc at) vs k (⊎_elim (λ l. inl (omega arith)) (λ l. inr (omega arith)) h)
    ∙ get_or-set_other ws at k v 0 (λ e. ⊎_elim (λ l. omega arith) (λ l. omega arith) h)

sets-in : (ws : List ℕ) (at : ℕ) (vs : List ℕ) (i : ℕ) → at + length vs ≤ length ws → i < length vs → get_or (sets ws at vs) (at + i) 0
    ≡ get_or vs i 0
sets-in ws at [] i h l = absurd (omega arith)
sets-in ws at (v ∷ vs) zero h l =
    let e : at + 0 ≡ at = omega arith in
    rw e (sets-out (set ws at v) (suc at) vs at (inl (omega arith)) ∙ get_or-set_same ws at v 0 (omega arith))
sets-in ws at (v ∷ vs) (suc i) h l =
    let e : at + suc i ≡ suc at + i = omega arith in
    rw e (sets-in (set ws at v) (suc at) vs i (rw length-set (omega arith)) (omega arith))

-- ---- a set that is read
set_word : (ws : List ℕ) (at i : ℕ) → i < set_words → get_or (set_at ws at) i 0 ≡ get_or ws (at + i) 0
unfolding set_at
set_word ws at zero h = let e : at + 0 ≡ at = omega arith in rw e
set_word ws at (suc zero) h = refl
set_word ws at (suc (suc zero)) h = refl
set_word ws at (suc (suc (suc zero))) h = refl
set_word ws at (suc (suc (suc (suc zero)))) h = refl
set_word ws at (suc (suc (suc (suc (suc i))))) h = absurd (omega arith)

pub member-set : (ws : List ℕ) (at j : ℕ) → j < position_count → member (set_at ws at) j ≡ member_at ws at j
unfolding member member_at
member-set ws at j h = rw (set_word ws at (j / word_bits) (omega arith))

-- ---- a set that is put
five-word : (s : List ℕ) (i : ℕ) → i < set_words → get_or (five s) i 0 ≡ get_or s i 0
five-word s zero h = refl
five-word s (suc zero) h = refl
five-word s (suc (suc zero)) h = refl
five-word s (suc (suc (suc zero))) h = refl
five-word s (suc (suc (suc (suc zero)))) h = refl
five-word s (suc (suc (suc (suc (suc i))))) h = absurd (omega arith)

pub length-put : (ws : List ℕ) (at : ℕ) (s : List ℕ) → length (put_at ws at s) ≡ length ws
unfolding put_at
length-put ws at s = length-sets ws at (five s)

pub put_word : (ws : List ℕ) (at k : ℕ) (s : List ℕ) → (k < at) ⊎ (at + set_words ≤ k) → get_or (put_at ws at s) k 0 ≡ get_or ws k 0
unfolding put_at
put_word ws at k s h = sets-out ws at (five s) k h

pub put_same : (ws : List ℕ) (at : ℕ) (s : List ℕ) (j : ℕ) → at + set_words ≤ length ws → j < position_count → member_at (put_at ws at s) at j
    ≡ member s j
unfolding member_at put_at member
put_same ws at s j h l = rw (sets-in ws at (five s) (j / word_bits) h (omega arith), five-word s (j / word_bits) (omega arith))

pub put_other : (ws : List ℕ) (at at' : ℕ) (s : List ℕ) (j : ℕ) → j < position_count → (at' + set_words ≤ at) ⊎ (at + set_words ≤ at')
    → member_at (put_at ws at s) at' j ≡ member_at ws at' j
unfolding member_at
put_other ws at at' s j l h = rw (put_word ws at (at' + j / word_bits) s (⊎_elim (λ b. inl (omega arith)) (λ b. inr (omega arith)) h))

-- ---- words of word_bits bits stay such
pub fit_at : (ws : List ℕ) (at : ℕ) → Fit ws → Fit (set_at ws at)
unfolding set_at
fit_at ws at f zero = f at
fit_at ws at f (suc zero) = f (at + 1)
fit_at ws at f (suc (suc zero)) = f (at + 2)
fit_at ws at f (suc (suc (suc zero))) = f (at + 3)
fit_at ws at f (suc (suc (suc (suc zero)))) = f (at + 4)
fit_at ws at f (suc (suc (suc (suc (suc k))))) = omega arith

-- ---- sums
pub total-le : (ws : List ℕ) → ((k : ℕ) → get_or ws k 0 < 2 ^ word_bits) → total ws ≤ length ws * 2 ^ word_bits
unfolding total
total-le [] h = omega arith
total-le (x ∷ ws) h = omega (arith, h 0, total-le ws (λ k. h (suc k)))

-- ---- a set that is joined to another
module _ {r : Bool} {ws after : List ℕ} {at : ℕ} {s : List ℕ} (h : Joined r ws after at s) where
  pub joined-other : (at' j : ℕ) → j < position_count → (at' + set_words ≤ at) ⊎ (at + set_words ≤ at') → member_at after at' j
      ≡ member_at ws at' j
  joined-other at' j l d = rw h.words (put_other ws at at' _ j l d)

  pub joined_same : (j : ℕ) → j < position_count → at + set_words ≤ length ws → member_at after at j ≡ (member_at ws at j || member s j)
  joined_same j l m = rw (h.words, put_same ws at (union_of (set_at ws at) s) j m l, member_union (set_at ws at) s j l, member-set ws at j l)
