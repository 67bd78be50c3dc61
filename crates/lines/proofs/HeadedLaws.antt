-- What is kept of an input whose first line stands apart: the first bytes of that line, and of the line that is open behind it.
use mathlib.Core.Path.{◌≡◌, refl, ap, ◌∙◌}
use mathlib.Core.Bool.{Bool, true, false, cond}
use mathlib.Core.List.{List, [], ◌∷◌, ◌++◌, append_assoc, append-nil}
use Prim.Native.Nat.{ℕ, suc, ◌+◌, ◌≤◌, ◌<◌}
use native.Mathlib.Numerals.{add-one}
use lib.Dec.{eqb}
use lib.ListN.{length, get_or, take, drop, drop_of_length-le}
use lib.Seq.{drop-cons}
use borrow.Author.Tests.{eq-eqb, ne_eqb}
use Rattle.lines.specs.Kept.{line_end, open_on, kept_on, open_after}
use Rattle.lines.specs.Headed.{first_line, behind_first, one_line?, Headed, headed, headed_on, headed_after}
use Rattle.lines.proofs.OpenLaws.{take_none, take_more, kept-open-on}

-- ---- one byte
pub head-ends : (m n : ℕ) (h t : List ℕ) (b : ℕ) {o : Bool} → o ≡ true → b ≡ line_end → headed false h t ≡ headed_on m n (headed o h t) b
unfolding headed_on
head-ends m n h t b q e = rw (q, eq-eqb b line_end e)

pub head_byte : (m n : ℕ) (h t : List ℕ) (b : ℕ) {o : Bool} {l : List ℕ} → o ≡ true → (b ≡ line_end → ⊥) → l ≡ take m (h ++ (b ∷ []))
    → headed true l t ≡ headed_on m n (headed o h t) b
unfolding headed_on
head_byte m n h t b q e z = rw (q, ne_eqb b line_end e, z)

pub tail-on : (m n : ℕ) (h t : List ℕ) (b : ℕ) {o : Bool} {l : List ℕ} → o ≡ false → l ≡ kept_on n t b
    → headed false h l ≡ headed_on m n (headed o h t) b
unfolding headed_on
tail-on m n h t b q z = rw (q, z)

-- ---- many
tail-after : (m n : ℕ) (h o s : List ℕ) → headed_after m n (headed false h (take n o)) s ≡ headed false h (take n (open_after o s))
unfolding headed_after headed_on open_after
tail-after m n h o [] = refl
tail-after m n h o (b ∷ s) =
    ap (λ (l : List ℕ). headed_after m n (headed false h l) s) (kept-open-on n o b) ∙ tail-after m n h (open_on o b) s

-- of the first line o is there already
abbrev Gone : ℕ → ℕ → List ℕ → List ℕ → Type 0
Gone m n o s = headed_after m n (headed true (take m o) (take n [])) s
    ≡ headed (one_line? s) (take m (o ++ first_line s)) (take n (open_after [] (behind_first s)))

head_step : (m n : ℕ) (o : List ℕ) (b : ℕ) (s : List ℕ) → Gone m n (o ++ (b ∷ [])) s → Gone m n o (b ∷ s)
unfolding headed_after headed_on open_after first_line behind_first one_line?
head_step m n o b s ih = go (eqb b line_end)
  where
    go : (e : Bool)
        → headed_after m n (cond e (headed false (take m o) (take n [])) (headed true (take m (take m o ++ (b ∷ []))) (take n []))) s
        ≡ headed (cond e false (one_line? s)) (take m (o ++ cond e [] (b ∷ first_line s))) (take n (open_after [] (cond e s (behind_first s))))
    go true = rw (append-nil o) (tail-after m n (take m o) [] s)
    go false =
        ap (λ (l : List ℕ). headed_after m n (headed true l (take n [])) s) (take_more m o b) ∙ ih
        ∙ ap (λ (l : List ℕ). headed (one_line? s) (take m l) (take n (open_after [] (behind_first s)))) (append_assoc o (b ∷ []) (first_line s))

head-after : (m n : ℕ) (o s : List ℕ) → Gone m n o s
unfolding headed_after open_after first_line behind_first one_line?
head-after m n o [] = rw (append-nil o)
head-after m n o (b ∷ s) = head_step m n o b s (head-after m n (o ++ (b ∷ [])) s)

-- from the input's beginning on
pub kept-headed : (m n : ℕ) (s : List ℕ)
    → headed_after m n (headed true [] []) s ≡ headed (one_line? s) (take m (first_line s)) (take n (open_after [] (behind_first s)))
kept-headed m n s =
    ap (λ (h : List ℕ). headed_after m n (headed true h []) s) (take_none m)
    ∙ ap (λ (t : List ℕ). headed_after m n (headed true (take m []) t) s) (take_none n) ∙ head-after m n [] s

-- ---- the bytes one at a time, as a loop meets them: s from i on is still to come
module _ (m n : ℕ) (x₀ : Headed) (s : List ℕ) (x : Headed) (i : ℕ) (e : headed_after m n x (drop i s) ≡ headed_after m n x₀ s) where
  pub headed-on : i < length s → {x' : Headed} → x' ≡ headed_on m n x (get_or s i 0) → headed_after m n x' (drop (i + 1) s) ≡ headed_after m n x₀ s
  unfolding headed_after
  headed-on l {x'} q =
      let z : drop i s ≡ get_or s i 0 ∷ drop (suc i) s = drop-cons s i 0 l in
      rw (add-one i, q) (rw z at e)

  pub headed-end : length s ≤ i → x ≡ headed_after m n x₀ s
  unfolding headed_after
  headed-end l = rw (drop_of_length-le s l) at e
