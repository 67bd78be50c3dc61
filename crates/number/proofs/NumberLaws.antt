-- `number_at` and the tests of a number by cases, as the code meets them; the join of two groups; what a number that passed is known to be.
use mathlib.Core.Path.{◌≡◌, refl, sym, subst, ◌∙◌}
use mathlib.Core.Bool.{Bool, true, false, cond, ◌&&◌, not}
use Prim.Native.Nat.{ℕ, suc, ◌+◌, ◌-◌, ◌*◌, ◌/◌, ◌%◌, ◌≤◌, ◌<◌}
use mathlib.Core.List.{List}
use native.Mathlib.Nat.{add_comm}
use native.Mathlib.Omega.{arith}
use native.Mathlib.Decide.{dec_lt}
use lib.ListN.{length, get_or}
use lib.Dec.{eqb, leb, ltb, leb→le, ltb→lt}
use lib.Bits.{bit_or, bit_and, and_mask, or_shifted_r}
use borrow.Author.Tests.{lt-ltb, le-ltb, le-leb, lt-leb, eq-eqb, ne_eqb, not-true, not-false}
use Rattle.base.proofs.Booleans.{clash, and_T, true→T, and_none}
use Rattle.number.specs.Types.{Refusal, Read, Cursor, Value, Refused, Unfinished, Malformed, OverLimit, UnknownSymbol}
use Rattle.number.specs.Fetching.{cursor}
use Rattle.number.specs.Number.{number_at, second_byte, third_byte, Refuses, tested, limited_at, legal, symbol_at}

pub joined : (low high : ℕ) → high < 65536 → bit_or (bit_and low 127) (high * 128 % 18446744073709551616) ≡ low % 128 + high * 128
joined low high h =
    let e : high * 128 % 18446744073709551616 ≡ high * 128 = omega arith in
    rw (and_mask low 7, e) (or_shifted_r high 7 (low % 128) (omega arith) ∙ add_comm _ _)

-- ---- the ways through a number, by the bytes that were fetched; each answer comes with the cursor that the code has there
module _ (s : List ℕ) (at : ℕ) where
  pub none : {c : Cursor} → length s ≤ at → c ≡ cursor at → Refused (Unfinished at) c ≡ number_at s at
  unfolding number_at
  none h q = rw q (simp (le-leb _ _ h))

  module _ (h : at < length s) where
    pub one : {v : ℕ} {c : Cursor} → v ≡ get_or s at 0 → v < 128 → c ≡ cursor (at + 1) → Value v c ≡ number_at s at
    unfolding number_at
    one {v} e l q = rw (q, e) (simp (lt-leb _ _ h, lt-ltb (get_or s at 0) 128 (omega arith)))

    module _ (l : 128 ≤ get_or s at 0) where
      pub cut : {c : Cursor} → length s ≤ at + 1 → c ≡ cursor (at + 1) → Refused (Unfinished at) c ≡ number_at s at
      unfolding number_at second_byte
      cut e q = rw q (simp (lt-leb _ _ h, le-ltb _ _ l, le-leb _ _ e))

      module _ (h1 : at + 1 < length s) where
        pub long : {c : Cursor} → get_or s (at + 1) 0 ≡ 0 → c ≡ cursor (at + 1 + 1) → Refused (Malformed at) c ≡ number_at s at
        unfolding number_at second_byte
        long e q = rw q (simp (lt-leb _ _ h, le-ltb _ _ l, lt-leb _ _ h1, eq-eqb _ _ e))

        pub two : {v : ℕ} {c : Cursor} → 0 < get_or s (at + 1) 0 → get_or s (at + 1) 0 < 128 → v ≡ get_or s at 0 % 128 + get_or s (at + 1) 0 * 128
            → c ≡ cursor (at + 1 + 1) → Value v c ≡ number_at s at
        unfolding number_at second_byte
        two p q e z = rw (z, e) (simp (lt-leb _ _ h, le-ltb _ _ l, lt-leb _ _ h1, ne_eqb (get_or s (at + 1) 0) 0 (λ z. omega arith), lt-ltb _ _ q))

        module _ (l1 : 128 ≤ get_or s (at + 1) 0) where
          pub cut2 : {c : Cursor} → length s ≤ at + 1 + 1 → c ≡ cursor (at + 1 + 1) → Refused (Unfinished at) c ≡ number_at s at
          unfolding number_at second_byte third_byte
          cut2 e q =
              rw q (simp (lt-leb _ _ h, le-ltb _ _ l, lt-leb _ _ h1, ne_eqb (get_or s (at + 1) 0) 0 (λ z. omega arith), le-ltb _ _ l1, le-leb _ _ e))

          pub long2 : {c : Cursor} → at + 1 + 1 < length s → get_or s (at + 1 + 1) 0 ≡ 0 → c ≡ cursor (at + 1 + 1 + 1)
              → Refused (Malformed at) c ≡ number_at s at
          unfolding number_at second_byte third_byte
          long2 h2 e q =
              rw q (simp (
                lt-leb _ _ h,
                le-ltb _ _ l,
                lt-leb _ _ h1,
                ne_eqb (get_or s (at + 1) 0) 0 (λ z. omega arith),
                le-ltb _ _ l1,
                lt-leb _ _ h2,
                eq-eqb _ _ e,
              ))

          pub high : {c : Cursor} → at + 1 + 1 < length s → 3 < get_or s (at + 1 + 1) 0 → c ≡ cursor (at + 1 + 1 + 1)
              → Refused (Malformed at) c ≡ number_at s at
          unfolding number_at second_byte third_byte
          high h2 e q =
              rw q (simp (
                lt-leb _ _ h,
                le-ltb _ _ l,
                lt-leb _ _ h1,
                ne_eqb (get_or s (at + 1) 0) 0 (λ z. omega arith),
                le-ltb _ _ l1,
                lt-leb _ _ h2,
                ne_eqb (get_or s (at + 1 + 1) 0) 0 (λ z. omega arith),
                lt-ltb _ _ e,
              ))

          pub three : {v : ℕ} {c : Cursor} → at + 1 + 1 < length s → 0 < get_or s (at + 1 + 1) 0 → get_or s (at + 1 + 1) 0 ≤ 3
              → v ≡ get_or s at 0 % 128 + (get_or s (at + 1) 0 % 128 + get_or s (at + 1 + 1) 0 * 128) * 128 → c ≡ cursor (at + 1 + 1 + 1)
              → Value v c ≡ number_at s at
          unfolding number_at second_byte third_byte
          three h2 p q e z =
              rw (z, e) (simp (
                lt-leb _ _ h,
                le-ltb _ _ l,
                lt-leb _ _ h1,
                ne_eqb (get_or s (at + 1) 0) 0 (λ z. omega arith),
                le-ltb _ _ l1,
                lt-leb _ _ h2,
                ne_eqb (get_or s (at + 1 + 1) 0) 0 (λ z. omega arith),
                le-ltb _ _ q,
              ))

-- ---- an answer that is a refusal
pub refuses : {f : Refusal} {c : Cursor} {x : Read} → Refused f c ≡ x → Refuses x f
refuses {f} e = subst (λ (x : Read). Refuses x f) e refl

pub refused-at : (x : Read) (f : Refusal) → Refuses x f → (c : Cursor) × (x ≡ Refused f c)
refused-at (Value v c) f h = absurd h
refused-at (Refused r c) f h = (c, rw h)

pub one-refusal : (x : Read) {f g : Refusal} → Refuses x f → Refuses x g → f ≡ g
one-refusal (Value v c) e h = absurd e
one-refusal (Refused r c) e h = sym e ∙ h

pub no-refusal : (f : Refusal) {v : ℕ} {c : Cursor} {x : Read} → Value v c ≡ x → Refuses x f → ⊥
no-refusal f e h = subst (λ (x : Read). Refuses x f) (sym e) h

-- ---- a number that must pass a test
module _ (ok : ℕ → Bool) (f : Refusal) {x n : Read} (e : n ≡ x) where
  tested-none : {r : Refusal} {c : Cursor} → n ≡ Refused r c → n ≡ tested ok f x
  unfolding tested
  tested-none h = rw (← e, h)

  tested-no : {v : ℕ} {c : Cursor} → n ≡ Value v c → ok v ≡ false → Refused f c ≡ tested ok f x
  unfolding tested
  tested-no h q = rw (← e, h, q)

  tested-yes : {v : ℕ} {c : Cursor} → n ≡ Value v c → ok v ≡ true → Value v c ≡ tested ok f x
  unfolding tested
  tested-yes h q = rw (← e, h, q)

module _ (s : List ℕ) (lo hi at : ℕ) {n : Read} (e : n ≡ number_at s at) where
  pub limited-refused : {r : Refusal} {c : Cursor} → n ≡ Refused r c → n ≡ limited_at s lo hi at
  unfolding limited_at
  limited-refused h = tested-none (λ v. leb lo v && leb v hi) (OverLimit at) e h

  module _ {v : ℕ} {c : Cursor} (h : n ≡ Value v c) where
    pub limited-below : v < lo → Refused (OverLimit at) c ≡ limited_at s lo hi at
    unfolding limited_at
    limited-below l = tested-no (λ v. leb lo v && leb v hi) (OverLimit at) e h (rw (lt-leb lo v l))

    pub limited-above : hi < v → Refused (OverLimit at) c ≡ limited_at s lo hi at
    unfolding limited_at
    limited-above l = tested-no (λ v. leb lo v && leb v hi) (OverLimit at) e h (rw (lt-leb v hi l) (and_none (leb lo v)))

    pub limited-in : lo ≤ v → v ≤ hi → Value v c ≡ limited_at s lo hi at
    unfolding limited_at
    limited-in l m = tested-yes (λ v. leb lo v && leb v hi) (OverLimit at) e h (rw (le-leb lo v l, le-leb v hi m))

module _ (s : List ℕ) (t k at : ℕ) {n : Read} (e : n ≡ number_at s at) where
  pub symbol-refused : {r : Refusal} {c : Cursor} → n ≡ Refused r c → n ≡ symbol_at s t k at
  unfolding symbol_at
  symbol-refused h = tested-none (legal t k) (UnknownSymbol at) e h

  module _ {v : ℕ} {c : Cursor} (h : n ≡ Value v c) {b : Bool} (l : b ≡ legal t k v) where
    pub symbol-illegal : not b ≡ true → Refused (UnknownSymbol at) c ≡ symbol_at s t k at
    unfolding symbol_at
    symbol-illegal m = tested-no (legal t k) (UnknownSymbol at) e h (sym l ∙ not-true b m)

    pub symbol-in : not b ≡ false → Value v c ≡ symbol_at s t k at
    unfolding symbol_at
    symbol-in m = tested-yes (legal t k) (UnknownSymbol at) e h (sym l ∙ not-false b m)

-- ---- the code's ways through `legal`: below the symbol that v writes (v - 1) / 2 of its sort are numbered, tokens from 1 on and nonterminals from 0 on
module _ (t n v : ℕ) where
  pub legal-zero : v ≡ 0 → false ≡ legal t n v
  unfolding legal
  legal-zero e = rw e

  pub legal-token : v % 2 ≡ 0 → (v ≡ 0 → ⊥) → ltb ((v - 1) / 2) t ≡ legal t n v
  unfolding legal
  legal-token e z = rw (eq-eqb (v % 2) 0 e, le-leb 1 (v / 2) (omega arith)) (go (dec_lt ((v - 1) / 2) t))
    where
      go : Dec ((v - 1) / 2 < t) → ltb ((v - 1) / 2) t ≡ leb (v / 2) t
      go (yes h) = lt-ltb ((v - 1) / 2) t h ∙ sym (le-leb (v / 2) t (omega arith))
      go (no h) = le-ltb ((v - 1) / 2) t (omega arith) ∙ sym (lt-leb (v / 2) t (omega arith))

  pub legal-nonterminal : (v % 2 ≡ 0 → ⊥) → ltb ((v - 1) / 2) n ≡ legal t n v
  unfolding legal
  legal-nonterminal e = let k : (v - 1) / 2 ≡ v / 2 = omega arith in rw (ne_eqb (v % 2) 0 e, k)

-- ---- what a number that passed is known to be
-- a number that was read passed its test
tested-is : (ok : ℕ → Bool) (f : Refusal) (x : Read) {v : ℕ} {c : Cursor} → tested ok f x ≡ Value v c → ok v ≡ true
unfolding tested
tested-is ok f (Value w d) {v} {c} e = go (ok w) refl
  where
    go : (b : Bool) → ok w ≡ b → ok v ≡ true
    go true q = let z : Value w d ≡ Value v c = rw q at e in let y : w ≡ v = cc in rw y at q
    go false q = let z : Refused f d ≡ Value v c = rw q at e in clash (cc)
tested-is ok f (Refused r d) e = clash (cc)

pub limited-is : (s : List ℕ) (lo hi at : ℕ) {n : Read} {v : ℕ} {c : Cursor} → n ≡ limited_at s lo hi at → n ≡ Value v c → (lo ≤ v)
    × (v ≤ hi)
unfolding limited_at
limited-is s lo hi at {n} {v} {c} e h =
    let t = and_T (leb lo v) (leb v hi)
    (true→T (leb lo v && leb v hi) (tested-is (λ v. leb lo v && leb v hi) (OverLimit at) (number_at s at) (sym e ∙ h))) in
    (leb→le lo v t.0, leb→le v hi t.1)

-- a legal symbol's number is below m, if those of the highest token and of the highest nonterminal are
legal-low : (t n v m : ℕ) → legal t n v ≡ true → 2 * suc t ≤ m → 2 * n ≤ m → v < m
unfolding legal
legal-low t n v m h kt kn = go (eqb (v % 2) 0) h
  where
    go : (b : Bool) → cond b (leb 1 (v / 2) && leb (v / 2) t) (ltb (v / 2) n) ≡ true → v < m
    go true q = let l = leb→le (v / 2) t (and_T (leb 1 (v / 2)) (leb (v / 2) t) (true→T (leb 1 (v / 2) && leb (v / 2) t) q)).1 in omega arith
    go false q = let l = ltb→lt (v / 2) n (true→T (ltb (v / 2) n) q) in omega arith

pub symbol-legal : (s : List ℕ) (t n at : ℕ) {x : Read} {v : ℕ} {c : Cursor} → x ≡ symbol_at s t n at → x ≡ Value v c → legal t n v ≡ true
unfolding symbol_at
symbol-legal s t n at e h = tested-is (legal t n) (UnknownSymbol at) (number_at s at) (sym e ∙ h)

pub symbol_low : (s : List ℕ) (t n at : ℕ) {x : Read} {v : ℕ} {c : Cursor} (m : ℕ) → 2 * suc t ≤ m → 2 * n ≤ m → x ≡ symbol_at s t n at
    → x ≡ Value v c → v < m
symbol_low s t n at {x} {v} m kt kn e h = legal-low t n v m (symbol-legal s t n at e h) kt kn
