-- Where a number's cursor stands, read or refused: behind the last byte that decided.
use mathlib.Core.Path.{◌≡◌, refl, sym, ap, subst, ◌∙◌}
use mathlib.Core.Bool.{Bool, true, false, cond, ◌&&◌}
use mathlib.Core.List.{List}
use Prim.Native.Nat.{ℕ, ◌+◌, ◌≤◌, ◌<◌}
use native.Mathlib.Omega.{arith}
use native.Mathlib.Decide.{dec_le, dec_lt}
use lib.ListN.{length, get_or}
use lib.Dec.{leb}
use borrow.Author.Tests.{lt-ltb, le-ltb}
use Rattle.number.specs.Types.{Cursor, Read, Refusal, Value, Refused, Unfinished, Malformed, OverLimit, UnknownSymbol}
use Rattle.number.specs.Fetching.{cursor, Tallied, end_of, number_bytes, decided_by}
use Rattle.number.specs.Number.{number_at, tested, limited_at, legal, symbol_at}
use Rattle.number.proofs.NumberLaws.{none, one, cut, long, two, cut2, long2, high, three}

-- an answer at `at` stands behind the number's bytes, or, refused, behind the byte that decided; and no byte is missing
abbrev pub Settled : List ℕ → ℕ → Read → Type 0
Settled s at (Value v c) = (c ≡ cursor (at + number_bytes s at)) × (at + number_bytes s at ≤ length s)
Settled s at (Refused f c) = (c ≡ cursor (decided_by s f)) × (at ≤ decided_by s f) × (decided_by s f ≤ length s)

module _ (s : List ℕ) (at : ℕ) where
  bytes-1 : get_or s at 0 < 128 → number_bytes s at ≡ 1
  unfolding number_bytes
  bytes-1 h = rw (lt-ltb _ _ h)

  bytes_2 : 128 ≤ get_or s at 0 → get_or s (at + 1) 0 < 128 → number_bytes s at ≡ 2
  unfolding number_bytes
  bytes_2 h l = rw (le-ltb _ _ h, lt-ltb _ _ l)

  bytes-3 : 128 ≤ get_or s at 0 → 128 ≤ get_or s (at + 1) 0 → number_bytes s at ≡ 3
  unfolding number_bytes
  bytes-3 h l = rw (le-ltb _ _ h, le-ltb _ _ l)

  -- an answer's cursor, by its place
  value-settled : {v k : ℕ} → k ≡ at + number_bytes s at → k ≤ length s → Value v (cursor k) ≡ number_at s at → Settled s at (number_at s at)
  value-settled e h q = subst (Settled s at) q (ap cursor e, omega (arith, e))

  refused-settled : (f : Refusal) (k : ℕ) → k ≡ decided_by s f → at ≤ k → k ≤ length s → Refused f (cursor k) ≡ number_at s at
      → Settled s at (number_at s at)
  refused-settled f k e l h q = subst (Settled s at) q (ap cursor e, omega (arith, e), omega (arith, e))

  abbrev low : ℕ
  low = get_or s at 0

  abbrev middle : ℕ
  middle = get_or s (at + 1) 0

  abbrev last : ℕ
  last = get_or s (at + 1 + 1) 0

  on-last : at < length s → 128 ≤ low → at + 1 < length s → 128 ≤ middle → Dec (length s ≤ at + 1 + 1) → Dec (0 < last) → Dec (last ≤ 3)
      → Settled s at (number_at s at)
  unfolding decided_by
  on-last h b d f (yes g) z k = refused-settled (Unfinished at) (at + 1 + 1) (omega arith) (omega arith) (omega arith) (cut2 s at h b d f g refl)
  on-last h b d f (no g) (no z) k =
      refused-settled (Malformed at) (at + 1 + 1 + 1) (omega (arith, bytes-3 b f)) (omega arith) (omega arith)
      (long2 s at h b d f (omega arith) (omega arith) refl)
  on-last h b d f (no g) (yes z) (no k) =
      refused-settled (Malformed at) (at + 1 + 1 + 1) (omega (arith, bytes-3 b f)) (omega arith) (omega arith)
      (high s at h b d f (omega arith) (omega arith) refl)
  on-last h b d f (no g) (yes z) (yes k) = value-settled (omega (arith, bytes-3 b f)) (omega arith) (three s at h b d f (omega arith) z k refl refl)

  on-middle : at < length s → 128 ≤ low → Dec (length s ≤ at + 1) → Dec (0 < middle) → Dec (middle < 128) → Settled s at (number_at s at)
  unfolding decided_by
  on-middle h b (yes d) z k = refused-settled (Unfinished at) (at + 1) (omega arith) (omega arith) (omega arith) (cut s at h b d refl)
  on-middle h b (no d) (no z) k =
      refused-settled (Malformed at) (at + 1 + 1) (omega (arith, bytes_2 b (omega arith))) (omega arith) (omega arith)
      (long s at h b (omega arith) (omega arith) refl)
  on-middle h b (no d) (yes z) (yes k) = value-settled (omega (arith, bytes_2 b k)) (omega arith) (two s at h b (omega arith) z k refl refl)
  on-middle h b (no d) (yes z) (no k) = on-last h b (omega arith) (omega arith) (dec_le (length s) (at + 1 + 1)) (dec_lt 0 last) (dec_le last 3)

  on-low : at ≤ length s → Dec (length s ≤ at) → Dec (low < 128) → Settled s at (number_at s at)
  unfolding decided_by
  on-low l (yes h) b = refused-settled (Unfinished at) at (omega arith) (omega arith) (omega arith) (none s at h refl)
  on-low l (no h) (yes b) = value-settled (omega (arith, bytes-1 b)) (omega arith) (one s at (omega arith) refl b refl)
  on-low l (no h) (no b) = on-middle (omega arith) (omega arith) (dec_le (length s) (at + 1)) (dec_lt 0 middle) (dec_lt middle 128)

  number-settled : at ≤ length s → Settled s at (number_at s at)
  number-settled l = on-low l (dec_le (length s) at) (dec_lt low 128)

  -- a number that must pass a test is refused, if at all, behind its last byte
  tested-settled : (ok : ℕ → Bool) (f : Refusal) → decided_by s f ≡ at + number_bytes s at → (x : Read) → Settled s at x → Settled s at (tested ok f x)
  unfolding tested
  tested-settled ok f e (Value v c) h = go (ok v)
    where
      go : (b : Bool) → Settled s at (cond b (Value v c) (Refused f c))
      go true = h
      go false = (h.0 ∙ ap cursor (sym e), omega (arith, e), omega (arith, e, h.1))
  tested-settled ok f e (Refused r c) h = h

  pub limited-settled : (lo hi : ℕ) → at ≤ length s → Settled s at (limited_at s lo hi at)
  unfolding limited_at decided_by
  limited-settled lo hi l = tested-settled (λ v. leb lo v && leb v hi) (OverLimit at) refl (number_at s at) (number-settled l)

  pub symbol-settled : (t n : ℕ) → at ≤ length s → Settled s at (symbol_at s t n at)
  unfolding symbol_at decided_by
  symbol-settled t n l = tested-settled (legal t n) (UnknownSymbol at) refl (number_at s at) (number-settled l)

-- ---- an answer's cursor is one of the pass
pub settled-tallied : (s : List ℕ) (at : ℕ) (x : Read) → Settled s at x → Tallied s (end_of x)
settled-tallied s at (Value v c) h = rw h.0 (refl, h.1)
settled-tallied s at (Refused f c) h = rw h.0 (refl, h.2)

module _ (s : List ℕ) (at : ℕ) (h : at ≤ length s) {x : Read} {v : ℕ} {c : Cursor} where
  pub limited-tallied : (lo hi : ℕ) → x ≡ limited_at s lo hi at → x ≡ Value v c → Tallied s c
  limited-tallied lo hi e q = subst (λ (y : Read). Tallied s (end_of y)) (sym e ∙ q)
      (settled-tallied s at (limited_at s lo hi at) (limited-settled s at lo hi h))

  pub symbol-tallied : (t n : ℕ) → x ≡ symbol_at s t n at → x ≡ Value v c → Tallied s c
  symbol-tallied t n e q = subst (λ (y : Read). Tallied s (end_of y)) (sym e ∙ q) (settled-tallied s at (symbol_at s t n at) (symbol-settled s at t n h))
