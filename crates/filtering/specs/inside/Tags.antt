-- What is kept of a pair: no end, a single end with the lowest alternative that gives it and whether another one does too, or a set of ends.
use Rattle.std.specs.Prelude.{◌≡◌, ◌↔◌, ◌⊎◌, Bool, false, cond, ◌||◌, not, List, ℕ, suc, ◌≤◌, T, eqb}
use Rattle.grammar.specs.Grammar.{Grammar}
use Rattle.first_follow.specs.inside.Masks.{Masks}
use Rattle.filtering.specs.inside.Filtered.{EndsBy}

pub data Tag : Type 0 where
  no_end : Tag
  -- end m, by alternative b, the lowest that gives it; and whether another one gives it
  one_end : (m b : ℕ) → Bool → Tag
  ends : (ℕ → Bool) → Tag

-- ---- ends that are added
-- one end more, j by alternative k
unfoldable pub add : Tag → ℕ → ℕ → Tag
add no_end k j = one_end j k false
add (one_end m b more) k j = cond (eqb m j) (one_end m b (more || not (eqb b k))) (ends (λ x. eqb x m || eqb x j))
add (ends s) k j = ends (λ x. s x || eqb x j)

-- ---- what a tag says
-- the tag tells which ends there are, P b m saying that alternative b gives end m
pub data Says (P : ℕ → ℕ → Type 0) : Tag → Type 0 where
  none : ((b m : ℕ) → ¬ P b m) → Says P no_end
  one : {m b : ℕ} {more : Bool} → P b m → ((c n : ℕ) → P c n → (n ≡ m) × (b ≤ c)) → T more ↔ ((c : ℕ) × P c m × ¬ (c ≡ b)) → Says P (one_end m b more)
  set : {s : ℕ → Bool} → ((m : ℕ) → T (s m) ↔ ((b : ℕ) × P b m)) → Says P (ends s)

-- these ends, and besides them j by alternative k
abbrev pub With : (ℕ → ℕ → Type 0) → ℕ → ℕ → ℕ → ℕ → Type 0
With P k j b m = P b m ⊎ ((b ≡ k) × (m ≡ j))

-- the tag of a pair is right
abbrev pub Tagged : Grammar → Masks → List ℕ → ℕ → ℕ → Tag → Type 0
Tagged g M w a i t = Says (EndsBy g M w a i) t

-- the same of the alternatives up to k
abbrev pub TaggedTo : Grammar → Masks → List ℕ → ℕ → ℕ → ℕ → Tag → Type 0
TaggedTo g M w a i k t = Says (λ b m. (b ≤ k) × EndsBy g M w a i b m) t

-- the same of the alternatives up to k, and of those ends of the next one that are in X
abbrev pub TaggedPart : Grammar → Masks → List ℕ → ℕ → ℕ → ℕ → (ℕ → Type 0) → Tag → Type 0
TaggedPart g M w a i k X t = Says (λ b m. ((b ≤ k) × EndsBy g M w a i b m) ⊎ ((b ≡ suc k) × EndsBy g M w a i (suc k) m × X m)) t
