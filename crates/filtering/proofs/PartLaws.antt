-- B6, the ends of one alternative as code adds them, one at a time: `TaggedPart` tells those of its ends that are in X, and X grows until it has them all.
use mathlib.Core.Path.{◌≡◌, refl}
use mathlib.Core.Logic.{◌↔◌, ◌⊎◌, inl, inr}
use mathlib.Core.List.{List}
use Prim.Native.Nat.{ℕ, suc, ◌≤◌, ◌<◌}
use native.Mathlib.Omega.{arith}
use native.Mathlib.Decide.{dec_le}
use Rattle.grammar.specs.Grammar.{Grammar}
use Rattle.first_follow.specs.inside.Masks.{Masks}
use Rattle.filtering.specs.inside.Filtered.{EndsBy}
use Rattle.filtering.specs.inside.Tags.{Tag, add, With, TaggedTo, TaggedPart}
use Rattle.filtering.proofs.TagLaws.{says_same, says-add}

module _ (g : Grammar) (M : Masks) (w : List ℕ) (a i k : ℕ) where
  -- what is told: all of the alternatives up to k, and of the next one what is in X
  abbrev Part : (ℕ → Type 0) → ℕ → ℕ → Type 0
  Part X b m = ((b ≤ k) × EndsBy g M w a i b m) ⊎ ((b ≡ suc k) × EndsBy g M w a i (suc k) m × X m)

  abbrev Next : ℕ → Type 0
  Next m = EndsBy g M w a i (suc k) m

  -- ---- any X
  -- none of its ends yet
  part-begin : (X : ℕ → Type 0) (t : Tag) → ((m : ℕ) → Next m → ¬ X m) → TaggedTo g M w a i k t → TaggedPart g M w a i k X t
  part-begin X t n x = says_same (λ b m. (λ s. inl s, from b m)) x
    where
      from : (b m : ℕ) → Part X b m → (b ≤ k) × EndsBy g M w a i b m
      from b m (inl s) = s
      from b m (inr (q, e, y)) = absurd (n m e y)

  -- the same of its ends
  part_same : (X Y : ℕ → Type 0) (t : Tag) → ((m : ℕ) → Next m → X m ↔ Y m) → TaggedPart g M w a i k X t → TaggedPart g M w a i k Y t
  part_same X Y t h x = says_same (λ b m. (to b m, from b m)) x
    where
      to : (b m : ℕ) → Part X b m → Part Y b m
      to b m (inl s) = inl s
      to b m (inr (q, e, y)) = inr (q, e, (h m e).0 y)

      from : (b m : ℕ) → Part Y b m → Part X b m
      from b m (inl s) = inl s
      from b m (inr (q, e, y)) = inr (q, e, (h m e).1 y)

  -- one more of its ends, j
  part-add : (X Y : ℕ → Type 0) (t : Tag) (j : ℕ) → Next j → ((m : ℕ) → Next m → Y m ↔ (X m ⊎ (m ≡ j))) → TaggedPart g M w a i k X t
      → TaggedPart g M w a i k Y (add t (suc k) j)
  part-add X Y t j e h x = says_same (λ b m. (to b m, from b m)) (says-add (suc k) j high t x)
    where
      high : (c n : ℕ) → Part X c n → c ≤ suc k
      high c n (inl (l, s)) = omega arith
      high c n (inr (q, s, y)) = omega arith

      to : (b m : ℕ) → With (Part X) (suc k) j b m → Part Y b m
      to b m (inl (inl s)) = inl s
      to b m (inl (inr (q, s, y))) = inr (q, s, (h m s).1 (inl y))
      to b m (inr (q, z)) = inr (q, rw z e, rw z ((h j e).1 (inr refl)))

      one : (b m : ℕ) → b ≡ suc k → Next m → X m ⊎ (m ≡ j) → With (Part X) (suc k) j b m
      one b m q s (inl y) = inl (inr (q, s, y))
      one b m q s (inr z) = inr (q, z)

      from : (b m : ℕ) → Part Y b m → With (Part X) (suc k) j b m
      from b m (inl s) = inl (inl s)
      from b m (inr (q, s, y)) = one b m q s ((h m s).0 y)

  -- all of its ends
  part_end : (X : ℕ → Type 0) (t : Tag) → ((m : ℕ) → Next m → X m) → TaggedPart g M w a i k X t → TaggedTo g M w a i (suc k) t
  part_end X t h x = says_same (λ b m. (to b m, λ s. from b m (dec_le b k) s)) x
    where
      to : (b m : ℕ) → Part X b m → (b ≤ suc k) × EndsBy g M w a i b m
      to b m (inl (l, e)) = (omega arith, e)
      to b m (inr (q, e, y)) = (omega arith, rw q e)

      from : (b m : ℕ) → Dec (b ≤ k) → (b ≤ suc k) × EndsBy g M w a i b m → Part X b m
      from b m (yes l) (y, e) = inl (l, e)
      from b m (no l) (y, e) = let q : b ≡ suc k = omega arith in let e' : Next m = rw q at e in inr (q, e', h m e')

  -- ---- alternatives with no end, and with one
  pub tagged-skip : (t : Tag) → ((m : ℕ) → ¬ Next m) → TaggedTo g M w a i k t → TaggedTo g M w a i (suc k) t
  tagged-skip t n x = part_end (λ m. m < 0) t (λ m e. absurd (n m e)) (part-begin (λ m. m < 0) t (λ m e l. n m e) x)

  pub tagged-one : (t : Tag) (j : ℕ) → ((m : ℕ) → Next m ↔ (m ≡ j)) → TaggedTo g M w a i k t → TaggedTo g M w a i (suc k) (add t (suc k) j)
  tagged-one t j h x =
      part_end (λ m. m ≡ j) (add t (suc k) j) (λ m e. (h m).0 e)
      (part-add (λ m. m < 0) (λ m. m ≡ j) t j ((h j).1 refl) (λ m e. (λ q. inr q, λ s. (h m).0 e))
      (part-begin (λ m. m < 0) t (λ m e l. absurd (omega arith)) x))

  -- ---- in rising order: those of its ends that are below a position
  abbrev Below : ℕ → Tag → Type 0
  Below n t = TaggedPart g M w a i k (λ m. m < n) t

  pub below-begin : (t : Tag) → TaggedTo g M w a i k t → Below 0 t
  below-begin t x = part-begin (λ m. m < 0) t (λ m e l. absurd (omega arith)) x

  -- no end stands between
  pub below-pass : (t : Tag) (n j : ℕ) → n ≤ j → ((m : ℕ) → n ≤ m → m < j → ¬ Next m) → Below n t → Below j t
  below-pass t n j l h x = part_same (λ m. m < n) (λ m. m < j) t (λ m e. (λ u. omega arith, λ u. back m e u (dec_le n m))) x
    where
      back : (m : ℕ) → Next m → m < j → Dec (n ≤ m) → m < n
      back m e u (yes v) = absurd (h m v u e)
      back m e u (no v) = omega arith

  -- the next end is j
  pub below-add : (t : Tag) (n j : ℕ) → n ≤ j → ((m : ℕ) → n ≤ m → m < j → ¬ Next m) → Next j → Below n t → Below (suc j) (add t (suc k) j)
  below-add t n j l h e x = part-add (λ m. m < j) (λ m. m < suc j) t j e (λ m s. (λ u. to m u (dec_le j m), from m)) (below-pass t n j l h x)
    where
      to : (m : ℕ) → m < suc j → Dec (j ≤ m) → (m < j) ⊎ (m ≡ j)
      to m u (yes v) = inr (omega arith)
      to m u (no v) = inl (omega arith)

      from : (m : ℕ) → (m < j) ⊎ (m ≡ j) → m < suc j
      from m (inl u) = omega arith
      from m (inr q) = omega arith

  -- no end is left
  pub below_end : (t : Tag) (n : ℕ) → ((m : ℕ) → n ≤ m → ¬ Next m) → Below n t → TaggedTo g M w a i (suc k) t
  below_end t n h x = part_end (λ m. m < n) t (λ m e. back m e (dec_le n m)) x
    where
      back : (m : ℕ) → Next m → Dec (n ≤ m) → m < n
      back m e (yes v) = absurd (h m v e)
      back m e (no v) = omega arith
