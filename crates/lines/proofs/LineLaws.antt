-- The parser's ways through a line: what is left of it, behind the tokens that were put down, gives what the whole line says.
use mathlib.Core.Path.{◌≡◌, refl, sym, ap, ◌∙◌}
use mathlib.Core.Bool.{true, false}
use mathlib.Core.List.{List, [], ◌∷◌, ◌++◌, append_assoc, append-nil}
use mathlib.Core.Option.{Option, none, some}
use Prim.Native.Nat.{ℕ, suc, ◌+◌, ◌≤◌, ◌<◌}
use native.Mathlib.Numerals.{add-one}
use native.Mathlib.Omega.{arith}
use lib.Dec.{leb}
use lib.ListN.{length, get_or, set, take, drop, length-append, length-take, drop_of_length-le}
use lib.Seq.{take-suc-set, drop-cons, length-take-le}
use borrow.Author.Tests.{lt-leb, le-leb, lt-ltb, le-ltb, eq-eqb, ne_eqb}
use Rattle.base.proofs.Booleans.{and_none}
use Rattle.lines.specs.Line.{max_line_tokens, max_digits, max_token, blank, fits?, grown, put, token_ended, tokens_from, few, line_of}

-- tokens in front of others
abbrev behind : List ℕ → Option (List ℕ) → Option (List ℕ)
behind u none = none
behind u (some w) = some (u ++ w)

behind-put : (u : List ℕ) (v : ℕ) (o : Option (List ℕ)) → behind u (put v o) ≡ behind (u ++ (v ∷ [])) o
behind-put u v none = refl
behind-put u v (some w) = ap {B = Option (List ℕ)} some (sym (append_assoc u (v ∷ []) w))

behind-none : (o : Option (List ℕ)) → behind [] o ≡ o
behind-none none = refl
behind-none (some w) = refl

-- a token too many
too_many : (u : List ℕ) (v : ℕ) (o : Option (List ℕ)) → max_line_tokens ≤ length u → none ≡ few (behind u (put v o))
unfolding few
too_many u v none h = refl
too_many u v (some w) h = simp (lt-leb (length (u ++ (v ∷ w))) max_line_tokens (omega (arith, length-append u (v ∷ w))))

-- ---- one byte on
pub at-blank : (d v b : ℕ) (s : List ℕ) → b ≡ blank → tokens_from d v (b ∷ s) ≡ token_ended d v (tokens_from 0 0 s)
unfolding tokens_from
at-blank d v b s h = rw (eq-eqb b blank h, tokens_from)

pub at-digit : (d v b : ℕ) (s : List ℕ) → (b ≡ blank → ⊥) → fits? d v b ≡ true → tokens_from d v (b ∷ s) ≡ tokens_from (suc d) (grown v b) s
unfolding tokens_from
at-digit d v b s h q = rw (ne_eqb b blank h, q, tokens_from)

pub at_other : (d v b : ℕ) (s : List ℕ) → (b ≡ blank → ⊥) → fits? d v b ≡ false → tokens_from d v (b ∷ s) ≡ none
unfolding tokens_from
at_other d v b s h q = rw (ne_eqb b blank h, q, tokens_from)

-- k tokens are put down, and i bytes are read: d digits of the number v since the last blank
unfoldable pub ParsedSoFar : List ℕ → List ℕ → ℕ → ℕ → ℕ → ℕ → Type 0
ParsedSoFar s note k d v i = few (behind (take k note) (tokens_from d v (drop i s))) ≡ line_of s

pub nothing : (s row : List ℕ) → length s ≡ 0 → some (take 0 row) ≡ line_of s
unfolding line_of
nothing [] row h = refl
nothing (b ∷ s) row h = absurd (omega arith)

pub going-begins : (s note : List ℕ) → (length s ≡ 0 → ⊥) → ParsedSoFar s note 0 0 0 0
unfolding ParsedSoFar line_of
going-begins [] note h = absurd (h refl)
going-begins (b ∷ s) note h = ap few (behind-none (tokens_from 0 0 (b ∷ s)))

module _ (s note : List ℕ) (k d v i : ℕ) (x : ParsedSoFar s note k d v i) where
  -- the token ends, with others behind it
  module _ (o : Option (List ℕ)) (y : few (behind (take k note) (token_ended d v o)) ≡ line_of s) where
    end_empty : d ≡ 0 → none ≡ line_of s
    unfolding token_ended few
    end_empty e = rw (eq-eqb d 0 e) at y

    end-many : (d ≡ 0 → ⊥) → max_line_tokens ≤ k → k ≤ length note → none ≡ line_of s
    unfolding token_ended
    end-many e h l =
        let z : few (behind (take k note) (put v o)) ≡ line_of s = rw (ne_eqb d 0 e) at y in
        too_many (take k note) v o (omega (arith, length-take-le k note l)) ∙ z

    end_token : {t : ℕ} → (d ≡ 0 → ⊥) → k < length note → t ≡ v → few (behind (take (k + 1) (set note k t)) o) ≡ line_of s
    unfolding token_ended
    end_token {t} e l q =
        let z : few (behind (take k note) (put v o)) ≡ line_of s = rw (ne_eqb d 0 e) at y in
        rw (add-one k, q, take-suc-set note k v l) (ap few (sym (behind-put (take k note) v o)) ∙ z)

  -- the line goes on with the byte b
  module _ (l : i < length s) {b : ℕ} (e : b ≡ get_or s i 0) where
    next : few (behind (take k note) (tokens_from d v (b ∷ drop (suc i) s))) ≡ line_of s
    unfolding ParsedSoFar
    next = let z : drop i s ≡ b ∷ drop (suc i) s = rw e (drop-cons s i 0 l) in rw z at x

    module _ (h : b ≡ blank) where
      ends : few (behind (take k note) (token_ended d v (tokens_from 0 0 (drop (suc i) s)))) ≡ line_of s
      ends = rw (at-blank d v b (drop (suc i) s) h) at next

      pub blank-first : d ≡ 0 → none ≡ line_of s
      blank-first z = end_empty (tokens_from 0 0 (drop (suc i) s)) ends z

      pub blank-many : (d ≡ 0 → ⊥) → max_line_tokens ≤ k → k ≤ length note → none ≡ line_of s
      blank-many z m q = end-many (tokens_from 0 0 (drop (suc i) s)) ends z m q

      pub blank-on : {t : ℕ} → (d ≡ 0 → ⊥) → k < length note → t ≡ v → ParsedSoFar s (set note k t) (k + 1) 0 0 (i + 1)
      unfolding ParsedSoFar
      blank-on z q w = rw (add-one i) (end_token (tokens_from 0 0 (drop (suc i) s)) ends z q w)

    module _ (h : b ≡ blank → ⊥) where
      refused : fits? d v b ≡ false → none ≡ line_of s
      unfolding few
      refused q = rw (at_other d v b (drop (suc i) s) h q) at next

      pub digit-below : b < 48 → none ≡ line_of s
      unfolding fits?
      digit-below q = refused (rw (lt-leb 48 b q))

      pub digit-above : 57 < b → none ≡ line_of s
      unfolding fits?
      digit-above q = refused (rw (lt-leb b 57 q) (and_none (leb 48 b)))

      pub digit-sixth : 48 ≤ b → b ≤ 57 → max_digits ≤ d → none ≡ line_of s
      unfolding fits?
      digit-sixth m q z = refused (rw (le-leb 48 b m, le-leb b 57 q, le-ltb d max_digits z))

      pub digit-high : 48 ≤ b → b ≤ 57 → d < max_digits → max_token < grown v b → none ≡ line_of s
      unfolding fits?
      digit-high m q z u = refused (rw (le-leb 48 b m, le-leb b 57 q, lt-ltb d max_digits z, lt-leb (grown v b) max_token u))

      pub digit-on : {w : ℕ} → 48 ≤ b → b ≤ 57 → d < max_digits → w ≡ grown v b → w ≤ max_token → ParsedSoFar s note k (d + 1) w (i + 1)
      unfolding ParsedSoFar fits?
      digit-on m q z a u =
          let y : fits? d v b ≡ true = rw (le-leb 48 b m, le-leb b 57 q, lt-ltb d max_digits z, le-leb (grown v b) max_token (omega arith)) in
          rw (add-one i, add-one d, a) (rw (at-digit d v b (drop (suc i) s) h y) at next)

  -- the line ends
  module _ (l : length s ≤ i) where
    last : few (behind (take k note) (token_ended d v (some []))) ≡ line_of s
    unfolding ParsedSoFar tokens_from
    last = rw (drop_of_length-le s l) at x

    pub last_empty : d ≡ 0 → none ≡ line_of s
    last_empty z = end_empty (some []) last z

    pub last-many : (d ≡ 0 → ⊥) → max_line_tokens ≤ k → k ≤ length note → none ≡ line_of s
    last-many z m q = end-many (some []) last z m q

    pub last-good : {t : ℕ} → (d ≡ 0 → ⊥) → k < max_line_tokens → max_line_tokens ≤ length note → t ≡ v → some (take (k + 1) (set note k t))
        ≡ line_of s
    unfolding few
    last-good {t} z h q e =
        let u = take (k + 1) (set note k t) in
        let n : length (u ++ []) ≤ max_line_tokens = omega (arith, length-append u [], length-take (k + 1) (set note k t)) in
        let y : few (some (u ++ [])) ≡ line_of s = end_token (some []) last z (omega arith) e in
        ap {B = Option (List ℕ)} some (sym (append-nil u)) ∙ (rw (le-leb (length (u ++ [])) max_line_tokens n) at y)
