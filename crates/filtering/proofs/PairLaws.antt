-- B6, the loop over the alternatives of a pair: none yet, and all (one alternative more is PartLaws); and what the tag then says.
use mathlib.Core.Path.{◌≡◌}
use mathlib.Core.Logic.{◌↔◌}
use mathlib.Core.Bool.{Bool}
use mathlib.Core.List.{List}
use Prim.Native.Nat.{ℕ, zero, suc, ◌≤◌}
use native.Mathlib.Omega.{arith}
use lib.Dec.{T}
use lib.ListN.{length}
use Rattle.base.proofs.Booleans.{clash}
use Rattle.grammar.specs.Grammar.{Grammar, alternatives}
use Rattle.derivation.proofs.LowestLaws.{first-lt}
use Rattle.first_follow.specs.inside.Masks.{Masks}
use Rattle.filtering.specs.inside.Filtered.{EndsBy, PairEnds}
use Rattle.filtering.specs.inside.Tags.{Tag, no_end, one_end, ends, none, one, set, Tagged, TaggedTo}
use Rattle.filtering.proofs.TagLaws.{says_same}

-- ---- the alternatives of a pair
module _ (g : Grammar) (M : Masks) (w : List ℕ) (a i : ℕ) where
  -- no alternative has number 0
  pub tagged-none : TaggedTo g M w a i 0 no_end
  tagged-none = none no_zero
    where
      no_zero : (b m : ℕ) → ¬ ((b ≤ 0) × EndsBy g M w a i b m)
      no_zero zero m (l, (f, d, x, h)) = clash (cc)
      no_zero (suc b) m (l, x) = absurd (omega arith)

  -- all alternatives are walked
  pub tagged-all : (k : ℕ) (t : Tag) → length (alternatives g a) ≤ k → TaggedTo g M w a i k t → Tagged g M w a i t
  tagged-all k t h x = says_same (λ b m. (λ s. s.1, within b m)) x
    where
      within : (b m : ℕ) → EndsBy g M w a i b m → (b ≤ k) × EndsBy g M w a i b m
      within b m (f, d, x, z) = let l = first-lt g w a b f d in (omega arith, (f, d, x, z))

  -- ---- what a right tag says of the pair
  pub tag-none : Tagged g M w a i no_end → (m : ℕ) → ¬ PairEnds g M w a i m
  tag-none (none n) m (b, x) = n b m x

  pub tag_one : {m b : ℕ} {more : Bool} → Tagged g M w a i (one_end m b more) → (n : ℕ) → PairEnds g M w a i n ↔ (n ≡ m)
  tag_one {m} {b} (one p u e) n = (λ s. (u s.0 n s.1).0, λ q. (b, rw q p))

  pub tag-set : {s : ℕ → Bool} → Tagged g M w a i (ends s) → (n : ℕ) → PairEnds g M w a i n ↔ T (s n)
  tag-set (set e) n = ((e n).1, (e n).0)
