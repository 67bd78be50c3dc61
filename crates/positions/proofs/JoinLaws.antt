-- A join: words only grow under `|`, so a set that changed has a greater sum, and one whose sum stays has not changed.
use mathlib.Core.Path.{◌≡◌, refl, sym, ◌∙◌, ap, ap₂}
use mathlib.Core.Bool.{true, false, true≢false, false≢true}
use mathlib.Core.List.{List, [], ◌∷◌}
use Prim.Native.Nat.{ℕ, zero, suc, ◌+◌, ◌≤◌, ◌<◌}
use native.Mathlib.Numerals.{add-one, add-two, add-three, add-four}
use native.Mathlib.Omega.{arith}
use native.Mathlib.Decide.{dec_lt}
use lib.ListN.{length, get_or, set, length-set}
use lib.Seq.{sets, get_or-set_other, set-get_or}
use lib.Bits.{bit_or}
use Rattle.base.proofs.Bits.{or-ge}
use Rattle.positions.specs.inside.Positions.{set_words, five, union_of}
use Rattle.positions.specs.inside.Words.{set_at, put_at, total, Joined}

-- ---- the sum of the words after stores
total-set : (ws : List ℕ) (a v : ℕ) → a < length ws → total (set ws a v) + get_or ws a 0 ≡ total ws + v
unfolding total
total-set [] a v h = absurd (omega arith)
total-set (x ∷ ws) zero v h = omega arith
total-set (x ∷ ws) (suc a) v h = omega (arith, total-set ws a v (omega arith))

-- the n words from a place on
read_at : List ℕ → ℕ → ℕ → List ℕ
read_at ws at zero = []
read_at ws at (suc n) = get_or ws at 0 ∷ read_at ws (suc at) n

read_set : (ws : List ℕ) (i v at n : ℕ) → i < at → read_at (set ws i v) at n ≡ read_at ws at n
unfolding read_at
read_set ws i v at zero h = refl
read_set ws i v at (suc n) h = ap₂ ◌∷◌ (get_or-set_other ws i at v 0 (λ e. omega arith)) (read_set ws i v (suc at) n (omega arith))

total-sets : (ws : List ℕ) (at : ℕ) (vs : List ℕ) → at + length vs ≤ length ws
    → total (sets ws at vs) + total (read_at ws at (length vs)) ≡ total ws + total vs
unfolding total read_at
total-sets ws at [] h = refl
total-sets ws at (v ∷ vs) h =
    omega (
      arith,
      total-set ws at v (omega arith),
      total-sets (set ws at v) (suc at) vs (rw length-set (omega arith)),
      ap total (read_set ws at v (suc at) (length vs) (omega arith)),
    )

sets-read : (ws : List ℕ) (at n : ℕ) → sets ws at (read_at ws at n) ≡ ws
unfolding read_at
sets-read ws at zero = refl
sets-read ws at (suc n) = ap (λ (l : List ℕ). sets l (suc at) (read_at ws (suc at) n)) (set-get_or ws at 0) ∙ sets-read ws (suc at) n

set-read : (ws : List ℕ) (at : ℕ) → set_at ws at ≡ read_at ws at 5
unfolding set_at read_at
set-read ws at = rw (add-one, add-two, add-three, add-four)

five-set : (ws : List ℕ) (at : ℕ) → five (set_at ws at) ≡ set_at ws at
unfolding set_at
five-set ws at = refl

put-set : (ws : List ℕ) (at : ℕ) → put_at ws at (set_at ws at) ≡ ws
unfolding put_at
put-set ws at = ap (λ (l : List ℕ). sets ws at l) (five-set ws at ∙ set-read ws at) ∙ sets-read ws at 5

total-put : (ws : List ℕ) (at : ℕ) (s : List ℕ) → at + set_words ≤ length ws → total (put_at ws at s) + total (set_at ws at)
    ≡ total ws + total (five s)
unfolding put_at
total-put ws at s h = rw (set-read ws at) (total-sets ws at (five s) h)

-- ---- the words of a union
module _ (a b : List ℕ) where
  five-union : five (union_of a b) ≡ union_of a b
  unfolding union_of
  five-union = refl

  abbrev word : ℕ → ℕ
  word k = bit_or (get_or a k 0) (get_or b k 0)

  -- each word grows: where the sum does not, no word does
  stays : total (union_of a b) ≤ total (five a) → union_of a b ≡ five a
  unfolding total union_of
  stays h = rw (words.0, words.1, words.2, words.3, words.4)
    where
      raised : (k : ℕ) → get_or a k 0 ≤ word k
      raised k = or-ge (get_or a k 0) (get_or b k 0)

      words : (word 0 ≡ get_or a 0 0) × (word 1 ≡ get_or a 1 0) × (word 2 ≡ get_or a 2 0) × (word 3 ≡ get_or a 3 0) × (word 4 ≡ get_or a 4 0)
      words = omega (arith, raised 0, raised 1, raised 2, raised 3, raised 4)

  more : ¬ (union_of a b ≡ five a) → total (five a) < total (union_of a b)
  more n = go (dec_lt (total (five a)) (total (union_of a b)))
    where
      go : Dec (total (five a) < total (union_of a b)) → total (five a) < total (union_of a b)
      go (yes l) = l
      go (no l) = absurd (n (stays (omega arith)))

-- ---- the two ways out of a join
module _ (ws : List ℕ) (at : ℕ) (s : List ℕ) {old new : List ℕ} (e : old ≡ set_at ws at) (f : new ≡ union_of old s) where
  pub join-same : new ≡ old → Joined false ws ws at s
  join-same q =
      let c = set_at ws at in
      let u : union_of c s ≡ c = ap (λ (l : List ℕ). union_of l s) (sym e) ∙ (sym f ∙ (q ∙ e)) in
      record { words = sym (ap (λ (l : List ℕ). put_at ws at l) u ∙ put-set ws at); same = λ _. refl; grown = λ t. absurd (false≢true t) }

  pub join-grown : {after : List ℕ} → ¬ (new ≡ old) → at + set_words ≤ length ws → after ≡ put_at ws at new → Joined true ws after at s
  join-grown {after} n h a =
      let c = set_at ws at in
      let u = union_of c s in
      let v : new ≡ u = f ∙ ap (λ (l : List ℕ). union_of l s) e in
      let g : after ≡ put_at ws at u = a ∙ ap (λ (l : List ℕ). put_at ws at l) v in
      let m = more c s (λ z. n (v ∙ (z ∙ (five-set ws at ∙ sym e)))) in
      let x : total (five u) ≡ total u = ap total (five-union c s) in
      let y : total (five c) ≡ total c = ap total (five-set ws at) in
      record { words = g; same = λ t. absurd (true≢false t); grown = λ _. rw g (omega (arith, total-put ws at u h)) }
