-- What is kept while bytes are read is the first m bytes of the open line; what `notes` keeps says what the whole open line says.
use mathlib.Core.Path.{◌≡◌, refl, ap, ◌∙◌}
use mathlib.Core.Bool.{Bool, true, false, cond}
use mathlib.Core.List.{List, [], ◌∷◌, ◌++◌}
use Prim.Native.Nat.{ℕ, zero, suc, ◌+◌, ◌≤◌, ◌<◌}
use native.Mathlib.Numerals.{add-one}
use lib.Dec.{eqb}
use lib.ListN.{length, get_or, take, drop, drop_of_length-le}
use lib.Seq.{drop-cons}
use borrow.Author.Tests.{eq-eqb, ne_eqb}
use Rattle.lines.specs.Line.{max_kept_bytes, line_of}
use Rattle.lines.specs.Kept.{line_end, open_on, kept_on, open_after, kept_after}
use Rattle.lines.proofs.KeptLaws.{kept-says}

-- ---- one byte
pub kept-end : (m : ℕ) (k : List ℕ) (b : ℕ) → b ≡ line_end → [] ≡ kept_on m k b
unfolding kept_on
kept-end m k b e = rw (eq-eqb b line_end e)

pub kept_byte : (m : ℕ) (k : List ℕ) (b : ℕ) {l : List ℕ} → (b ≡ line_end → ⊥) → l ≡ take m (k ++ (b ∷ [])) → l ≡ kept_on m k b
unfolding kept_on
kept_byte m k b n e = rw (ne_eqb b line_end n) e

pub take_none : (n : ℕ) → ◌≡◌ {A = List ℕ} [] (take n [])
take_none zero = refl
take_none (suc n) = refl

-- of n bytes and one more the first n do not depend on what stood behind the first n before
pub take_more : (n : ℕ) (o : List ℕ) (b : ℕ) → take n (take n o ++ (b ∷ [])) ≡ take n (o ++ (b ∷ []))
take_more zero o b = refl
take_more (suc n) [] b = refl
take_more (suc n) (x ∷ o) b = ap (λ (l : List ℕ). x ∷ l) (take_more n o b)

pub kept-open-on : (m : ℕ) (o : List ℕ) (b : ℕ) → kept_on m (take m o) b ≡ take m (open_on o b)
unfolding kept_on open_on
kept-open-on m o b = go (eqb b line_end)
  where
    go : (e : Bool) → cond e [] (take m (take m o ++ (b ∷ []))) ≡ take m (cond e [] (o ++ (b ∷ [])))
    go true = take_none m
    go false = take_more m o b

-- ---- many: the first m bytes of the open line are kept
pub kept-open : (m : ℕ) (o s : List ℕ) → kept_after m (take m o) s ≡ take m (open_after o s)
unfolding kept_after open_after
kept-open m o [] = refl
kept-open m o (b ∷ s) = ap (λ (k : List ℕ). kept_after m k s) (kept-open-on m o b) ∙ kept-open m (open_on o b) s

-- what `notes` keeps says what the whole open line says
pub kept-open-says : (o s : List ℕ) → line_of (kept_after max_kept_bytes (take max_kept_bytes o) s) ≡ line_of (open_after o s)
kept-open-says o s = ap line_of (kept-open max_kept_bytes o s) ∙ kept-says (open_after o s)

-- ---- the bytes one at a time, as a loop meets them: s from i on is still to come
module _ (m : ℕ) (k₀ s k : List ℕ) (i : ℕ) (x : kept_after m k (drop i s) ≡ kept_after m k₀ s) where
  pub feed-on : i < length s → {k' : List ℕ} → k' ≡ kept_on m k (get_or s i 0) → kept_after m k' (drop (i + 1) s) ≡ kept_after m k₀ s
  unfolding kept_after
  feed-on l {k'} e =
      let z : drop i s ≡ get_or s i 0 ∷ drop (suc i) s = drop-cons s i 0 l in
      rw (add-one i, e) (rw z at x)

  pub feed-end : length s ≤ i → k ≡ kept_after m k₀ s
  unfolding kept_after
  feed-end l = rw (drop_of_length-le s l) at x
