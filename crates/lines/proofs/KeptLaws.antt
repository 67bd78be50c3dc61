-- A line's first max_kept bytes say what the line says: a longer one is bad. So a line of any length is read by what is kept of it.
use mathlib.Core.Path.{◌≡◌, refl, sym, ap, ◌∙◌}
use mathlib.Core.Bool.{Bool, true, false, cond, ◌&&◌}
use mathlib.Core.List.{List, [], ◌∷◌, ◌++◌}
use mathlib.Core.Option.{Option, none, some}
use mathlib.Core.Logic.{◌⊎◌, inl, inr}
use Prim.Native.Nat.{ℕ, suc, ◌+◌, ◌*◌, ◌≤◌, ◌<◌}
use native.Mathlib.Numerals.{add-one}
use native.Mathlib.Omega.{arith}
use lib.Dec.{eqb, leb, ltb, ltb→lt}
use lib.ListN.{length, set, take, length-append, length-take}
use lib.Seq.{take_all, take-suc-set, take_at}
use borrow.Author.Tests.{leb-true, leb-false}
use Rattle.base.proofs.Booleans.{clash, and_T, true→T}
use Rattle.base.proofs.Bits.{same?}
use Rattle.lines.proofs.LineLaws.{at-blank, at-digit, at_other}
use Rattle.lines.specs.Line.{max_line_tokens, max_digits, max_token, max_kept_bytes, blank, fits?, grown, put, token_ended, tokens_from, few, line_of}

-- ---- keeping a byte
pub kept_full : (s : List ℕ) (k b : ℕ) → length s ≤ k → k ≤ length s → take k s ≡ take (length s) (take k s ++ (b ∷ []))
kept_full s k b h l = sym (take_at (take k s) (b ∷ []) (length s) (omega (arith, length-take k s)))

pub kept_more : (s : List ℕ) (k b : ℕ) → k < length s → take (k + 1) (set s k b) ≡ take (length s) (take k s ++ (b ∷ []))
kept_more s k b h =
    rw (add-one k, take-suc-set s k b (omega arith))
    (sym (take_all (length s) (take k s ++ (b ∷ [])) (omega (arith, length-append (take k s) (b ∷ []), length-take k s))))

-- ---- a good line is short
ended_some : (d v : ℕ) (o : Option (List ℕ)) {w : List ℕ} → token_ended d v o ≡ some w → (u : List ℕ) × (o ≡ some u) × (length w ≡ suc (length u))
unfolding token_ended
ended_some d v o {w} e = go (eqb d 0) o e
  where
    go : (t : Bool) (o : Option (List ℕ)) → cond t none (put v o) ≡ some w → (u : List ℕ) × (o ≡ some u) × (length w ≡ suc (length u))
    go true o q = clash (cc)
    go false none q = clash (cc)
    go false (some u) q = let z : w ≡ v ∷ u = cc in (u, refl, ap length z)

fits-few : (d v b : ℕ) → fits? d v b ≡ true → d < max_digits
unfolding fits?
fits-few d v b e =
    let x = (and_T (leb 48 b) (leb b 57 && (ltb d max_digits && leb (grown v b) max_token)) (true→T (fits? d v b) e)).1 in
    let y = (and_T (leb b 57) (ltb d max_digits && leb (grown v b) max_token) x).1 in
    ltb→lt d max_digits (and_T (ltb d max_digits) (leb (grown v b) max_token) y).0

-- a line's rest s says only notes of enough tokens
abbrev Short : List ℕ → Type 0
Short s = (d v : ℕ) (w : List ℕ) → tokens_from d v s ≡ some w → d ≤ max_digits → length s + d + 1 ≤ suc max_digits * length w

short-step : (b : ℕ) (s : List ℕ) → Short s → Short (b ∷ s)
short-step b s ih d v w e h = go (same? b blank)
  where
    digit : (f : Bool) → (b ≡ blank → ⊥) → fits? d v b ≡ f → suc (length s) + d + 1 ≤ suc max_digits * length w
    digit true n q = let z = ih (suc d) (grown v b) w (sym (at-digit d v b s n q) ∙ e) (omega (arith, fits-few d v b q)) in omega arith
    digit false n q = let z : none ≡ some w = sym (at_other d v b s n q) ∙ e in clash (cc)

    go : (b ≡ blank) ⊎ (b ≡ blank → ⊥) → suc (length s) + d + 1 ≤ suc max_digits * length w
    go (inl q) =
        let (u, y, n) = ended_some d v (tokens_from 0 0 s) (sym (at-blank d v b s q) ∙ e) in
        let z = ih 0 0 u y (omega arith) in
        omega arith
    go (inr n) = digit (fits? d v b) n refl

-- each token takes at most max_digits bytes and a blank
good-short : (s : List ℕ) → Short s
unfolding tokens_from
good-short [] d v w e h = let (u, q, n) = ended_some d v (some []) e in omega arith
good-short (b ∷ s) d v w e h = short-step b s (good-short s) d v w e h

few-some : (o : Option (List ℕ)) {w : List ℕ} → few o ≡ some w → (o ≡ some w) × (length w ≤ max_line_tokens)
unfolding few
few-some none e = clash (cc)
few-some (some u) {w} e = go (leb (length u) max_line_tokens) refl e
  where
    go : (t : Bool) → leb (length u) max_line_tokens ≡ t → cond t (some u) none ≡ some w → (some u ≡ some w) × (length w ≤ max_line_tokens)
    go true q x = let z : u ≡ w = cc in (x, rw z at (leb-true (length u) max_line_tokens q))
    go false q x = clash (cc)

pub long-bad : (s : List ℕ) → max_kept_bytes ≤ length s → line_of s ≡ none
unfolding line_of
long-bad [] h = absurd (omega arith)
long-bad (b ∷ s) h = go (few (tokens_from 0 0 (b ∷ s))) refl
  where
    go : (o : Option (List ℕ)) → few (tokens_from 0 0 (b ∷ s)) ≡ o → o ≡ none
    go none q = refl
    go (some w) q =
        let (y, l) = few-some (tokens_from 0 0 (b ∷ s)) q in
        let z = good-short (b ∷ s) 0 0 w y (omega arith) in
        absurd (omega arith)

-- what is kept of a line says what the line says
pub kept-says : (s : List ℕ) → line_of (take max_kept_bytes s) ≡ line_of s
kept-says s = go (leb (length s) max_kept_bytes) refl
  where
    go : (t : Bool) → leb (length s) max_kept_bytes ≡ t → line_of (take max_kept_bytes s) ≡ line_of s
    go true q = ap line_of (take_all max_kept_bytes s (leb-true (length s) max_kept_bytes q))
    go false q =
        let h = leb-false (length s) max_kept_bytes q in
        long-bad (take max_kept_bytes s) (omega (arith, length-take max_kept_bytes s)) ∙ sym (long-bad s (omega arith))
