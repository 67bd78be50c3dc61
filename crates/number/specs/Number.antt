-- The number format: groups of seven bits, lowest group first; the top bit of a byte says that another follows. Only the shortest form counts: a last
-- byte 0 behind another is refused. A third byte is at most 3: more would be above 65,535, or announce a fourth. A cursor comes with every answer: it stands
-- behind the last byte that was fetched.
use Rattle.std.specs.Prelude.{◌≡◌, ℕ, ◌+◌, ◌*◌, ◌/◌, ◌%◌, List, [], ◌∷◌, Bool, cond, ◌&&◌, length, get_or, ltb, leb, eqb}
use Rattle.number.specs.Types.{Read, Value, Refused, Refusal, Unfinished, Malformed, OverLimit, UnknownSymbol}
use Rattle.number.specs.Fetching.{cursor}

-- the number whose first byte stands at `at` and is `low`, whose second is `middle`, and whose third and last stands at `here`
unfoldable pub third_byte : List ℕ → ℕ → ℕ → ℕ → ℕ → Read
third_byte s at low middle here =
    cond (leb (length s) here) (Refused (Unfinished at) (cursor here))
    (cond (eqb (get_or s here 0) 0) (Refused (Malformed at) (cursor (here + 1)))
    (cond (ltb 3 (get_or s here 0)) (Refused (Malformed at) (cursor (here + 1)))
    (Value (low % 128 + (middle % 128 + get_or s here 0 * 128) * 128) (cursor (here + 1)))))

-- the number whose first byte stands at `at` and is `low`, and whose second stands at `here`
unfoldable pub second_byte : List ℕ → ℕ → ℕ → ℕ → Read
unfolding third_byte
second_byte s at low here =
    cond (leb (length s) here) (Refused (Unfinished at) (cursor here))
    (cond (eqb (get_or s here 0) 0) (Refused (Malformed at) (cursor (here + 1)))
    (cond (ltb (get_or s here 0) 128) (Value (low % 128 + get_or s here 0 * 128) (cursor (here + 1)))
    (third_byte s at low (get_or s here 0) (here + 1))))

-- the number at `at` and the cursor behind it; or 1 or 2, at the number's start
unfoldable pub number_at : List ℕ → ℕ → Read
unfolding second_byte
number_at s at =
    cond (leb (length s) at) (Refused (Unfinished at) (cursor at))
    (cond (ltb (get_or s at 0) 128) (Value (get_or s at 0) (cursor (at + 1)))
    (second_byte s at (get_or s at 0) (at + 1)))

-- an answer is this refusal, wherever its cursor stands
abbrev pub Refuses : Read → Refusal → Type 0
Refuses (Value v c) f = ⊥
Refuses (Refused r c) f = r ≡ f

-- the highest number that is written
abbrev pub max_number : ℕ
max_number = 65535

-- the shortest form of a number up to that; proofs/ShortestForm says that `number_at` reads exactly these
unfoldable pub shortest : ℕ → List ℕ
shortest v =
    cond (ltb v 128) (v ∷ [])
    (cond (ltb v 16384) ((v % 128 + 128) ∷ (v / 128) ∷ [])
    ((v % 128 + 128) ∷ (v / 128 % 128 + 128) ∷ (v / 16384) ∷ []))

-- a number that must pass a test, or a refusal of it
unfoldable pub tested : (ℕ → Bool) → Refusal → Read → Read
tested ok refusal (Value v c) = cond (ok v) (Value v c) (Refused refusal c)
tested ok refusal (Refused r c) = Refused r c

-- the number at `at`, from lo to hi, or 3
unfoldable pub limited_at : List ℕ → ℕ → ℕ → ℕ → Read
unfolding number_at tested
limited_at s lo hi at = tested (λ v. leb lo v && leb v hi) (OverLimit at) (number_at s at)

-- v writes a token from 1 to t, as twice its number, or a nonterminal below n, as one more than that
unfoldable pub legal : ℕ → ℕ → ℕ → Bool
legal t n v = cond (eqb (v % 2) 0) (leb 1 (v / 2) && leb (v / 2) t) (ltb (v / 2) n)

-- the number at `at`, writing a symbol, or 4
unfoldable pub symbol_at : List ℕ → ℕ → ℕ → ℕ → Read
unfolding number_at tested legal
symbol_at s t n at = tested (legal t n) (UnknownSymbol at) (number_at s at)
