-- A number in some bytes, and in the same bytes with more behind them: the same answer, or the first have ended and the second fetched a byte behind them.
use mathlib.Core.Path.{◌≡◌, refl, subst}
use mathlib.Core.Logic.{◌⊎◌, inl, inr}
use mathlib.Core.Bool.{Bool, true, false, cond, ◌&&◌}
use mathlib.Core.List.{List, ◌++◌}
use Prim.Native.Nat.{ℕ, ◌+◌, ◌≤◌, ◌<◌}
use native.Mathlib.Omega.{arith}
use native.Mathlib.Decide.{dec_le}
use lib.ListN.{length, get_or, length-append, get_or-append}
use lib.Dec.{leb, ltb, eqb}
use borrow.Author.Tests.{le-leb, lt-leb}
use Rattle.number.specs.Types.{Read, Value, Refused}
use Rattle.number.specs.Types.{Refusal, Unfinished, Malformed, OverLimit, UnknownSymbol, Trailing, Unproductive, LeftRecursive}
use Rattle.number.specs.Fetching.{cursor, end_of}
use Rattle.number.specs.Number.{number_at, second_byte, third_byte, Refuses, tested, limited_at, legal, symbol_at}

-- a refusal of a number: 1 to 4
abbrev pub OfNumber : Refusal → Type 0
OfNumber (Unfinished at) = Unit {0}
OfNumber (Malformed at) = Unit {0}
OfNumber (OverLimit at) = Unit {0}
OfNumber (UnknownSymbol at) = Unit {0}
OfNumber (Trailing at) = ⊥
OfNumber (Unproductive a) = ⊥
OfNumber (LeftRecursive a) = ⊥

-- an answer that was given at a number
abbrev pub Early : Read → Type 0
Early (Value v c) = Unit {0}
Early (Refused f c) = OfNumber f

-- bytes are missing
abbrev pub Cut : Read → Type 0
Cut x = (at : ℕ) × Refuses x (Unfinished at)

-- x ran out of the bytes of w, and y has fetched one behind them
abbrev pub Short : List ℕ → Read → Read → Type 0
Short w x y = Cut x × (length w < (end_of y).count)

-- the same answer, or that
abbrev pub Agree : List ℕ → Read → Read → Type 0
Agree w x y = ((x ≡ y) × Early x) ⊎ Short w x y

-- ---- how far an answer has come, at least
past-either : (k : ℕ) (b : Bool) (x y : Read) → k ≤ (end_of x).count → k ≤ (end_of y).count → k ≤ (end_of (cond b x y)).count
past-either k true x y h l = h
past-either k false x y h l = l

third-past : (s : List ℕ) (at low middle here : ℕ) → here ≤ (end_of (third_byte s at low middle here)).count
unfolding third_byte
third-past s at low middle here =
    past-either here (leb (length s) here) _ _ (omega arith)
    (past-either here (eqb (get_or s here 0) 0) _ _ (omega arith) (past-either here (ltb 3 (get_or s here 0)) _ _ (omega arith) (omega arith)))

second_past : (s : List ℕ) (at low here : ℕ) → here ≤ (end_of (second_byte s at low here)).count
unfolding second_byte
second_past s at low here =
    past-either here (leb (length s) here) _ _ (omega arith)
    (past-either here (eqb (get_or s here 0) 0) _ _ (omega arith)
    (past-either here (ltb (get_or s here 0) 128) _ _ (omega arith) (omega (arith, third-past s at low (get_or s here 0) (here + 1)))))

-- ---- the bytes of a number, one after another
module _ (w more : List ℕ) where
  agree-either : (b : Bool) (x y x' y' : Read) → Agree w x y → Agree w x' y' → Agree w (cond b x x') (cond b y y')
  agree-either true x y x' y' h l = h
  agree-either false x y x' y' h l = l

  -- the byte at `here`, which both have, or none has, or only the second
  fetched : (at here : ℕ) (x y : Read) → here ≤ length w → (get_or (w ++ more) here 0 ≡ get_or w here 0 → here < length w → Agree w x y)
      → here + 1 ≤ (end_of y).count
      → Agree w (cond (leb (length w) here) (Refused (Unfinished at) (cursor here)) x)
      (cond (leb (length (w ++ more)) here) (Refused (Unfinished at) (cursor here)) y)
  fetched at here x y l g k = go (dec_le (length w) here) (dec_le (length (w ++ more)) here)
    where
      go : Dec (length w ≤ here) → Dec (length (w ++ more) ≤ here)
          → Agree w (cond (leb (length w) here) (Refused (Unfinished at) (cursor here)) x)
          (cond (leb (length (w ++ more)) here) (Refused (Unfinished at) (cursor here)) y)
      go (yes h) (yes i) = rw (le-leb _ _ h, le-leb _ _ i) (inl (refl, tt))
      go (yes h) (no i) = rw (le-leb _ _ h, lt-leb (length (w ++ more)) here (omega arith)) (inr ((at, refl), omega arith))
      go (no h) i =
          let e = length-append w more in
          rw (lt-leb (length w) here (omega arith), lt-leb (length (w ++ more)) here (omega (arith, e)))
          (g (get_or-append w more 0 here (omega arith)) (omega arith))

  third-agree : (at low middle here : ℕ) → here ≤ length w → Agree w (third_byte w at low middle here) (third_byte (w ++ more) at low middle here)
  unfolding third_byte
  third-agree at low middle here l =
      fetched at here _ _ l
      (λ e h. rw e (agree-either (eqb (get_or w here 0) 0) _ _ _ _ (inl (refl, tt))
      (agree-either (ltb 3 (get_or w here 0)) _ _ _ _ (inl (refl, tt)) (inl (refl, tt)))))
      (past-either (here + 1) (eqb (get_or (w ++ more) here 0) 0) _ _ (omega arith)
      (past-either (here + 1) (ltb 3 (get_or (w ++ more) here 0)) _ _ (omega arith) (omega arith)))

  second-agree : (at low here : ℕ) → here ≤ length w → Agree w (second_byte w at low here) (second_byte (w ++ more) at low here)
  unfolding second_byte
  second-agree at low here l =
      fetched at here _ _ l
      (λ e h. rw e (agree-either (eqb (get_or w here 0) 0) _ _ _ _ (inl (refl, tt))
      (agree-either (ltb (get_or w here 0) 128) _ _ _ _ (inl (refl, tt)) (third-agree at low (get_or w here 0) (here + 1) (omega arith)))))
      (past-either (here + 1) (eqb (get_or (w ++ more) here 0) 0) _ _ (omega arith)
      (past-either (here + 1) (ltb (get_or (w ++ more) here 0) 128) _ _ (omega arith) (third-past (w ++ more) at low (get_or (w ++ more) here 0) (here + 1))))

  number-agree : (at : ℕ) → at ≤ length w → Agree w (number_at w at) (number_at (w ++ more) at)
  unfolding number_at
  number-agree at l =
      fetched at at _ _ l
      (λ e h. rw e (agree-either (ltb (get_or w at 0) 128) _ _ _ _ (inl (refl, tt)) (second-agree at (get_or w at 0) (at + 1) (omega arith))))
      (past-either (at + 1) (ltb (get_or (w ++ more) at 0) 128) _ _ (omega arith) (second_past (w ++ more) at (get_or (w ++ more) at 0) (at + 1)))

  -- ---- a number that must pass a test
  tested_agree : (ok : ℕ → Bool) (f : Refusal) → OfNumber f → (x y : Read) → Agree w x y → Agree w (tested ok f x) (tested ok f y)
  unfolding tested
  tested_agree ok f o x y (inl (e, h)) = subst (λ (z : Read). Agree w (tested ok f x) (tested ok f z)) e (go x h)
    where
      go : (x : Read) → Early x → Agree w (tested ok f x) (tested ok f x)
      go (Value v c) h = agree-either (ok v) _ _ _ _ (inl (refl, tt)) (inl (refl, o))
      go (Refused r c) h = inl (refl, h)
  tested_agree ok f o x y (inr (h, l)) = go x y h l
    where
      go : (x y : Read) → Cut x → length w < (end_of y).count → Agree w (tested ok f x) (tested ok f y)
      go (Value v c) y h l = absurd h.1
      go (Refused r c) (Value v d) h l = inr (h, by-test (ok v))
        where
          by-test : (b : Bool) → length w < (end_of (cond b (Value v d) (Refused f d))).count
          by-test true = l
          by-test false = l
      go (Refused r c) (Refused q d) h l = inr (h, l)

  pub limited-agree : (lo hi at : ℕ) → at ≤ length w → Agree w (limited_at w lo hi at) (limited_at (w ++ more) lo hi at)
  unfolding limited_at
  limited-agree lo hi at l =
      tested_agree (λ v. leb lo v && leb v hi) (OverLimit at) tt (number_at w at) (number_at (w ++ more) at) (number-agree at l)

  pub symbol-agree : (t n at : ℕ) → at ≤ length w → Agree w (symbol_at w t n at) (symbol_at (w ++ more) t n at)
  unfolding symbol_at
  symbol-agree t n at l = tested_agree (legal t n) (UnknownSymbol at) tt (number_at w at) (number_at (w ++ more) at) (number-agree at l)
