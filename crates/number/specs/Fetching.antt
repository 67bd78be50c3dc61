-- Bytes fetched one after another, each counted: every byte that a reader of numbers knows came to it so. proofs/FetchLaws says that none is fetched twice.
use Rattle.std.specs.Prelude.{◌≡◌, cond, List, [], ◌∷◌, ◌++◌, ℕ, suc, ◌+◌, ◌-◌, ◌≤◌, ◌<◌, length, get_or, ltb}
use Rattle.number.specs.Types.{Cursor, Fetch, Read, Value, Refused}
use Rattle.number.specs.Types.{Refusal, Unfinished, Malformed, OverLimit, UnknownSymbol, Trailing, Unproductive, LeftRecursive}

-- a cursor behind the first k bytes that has counted each of them once
abbrev pub cursor : ℕ → Cursor
cursor k = record { at = k; count = k }

-- a cursor of a pass over s: it stands behind as many bytes of s as it has counted
abbrev pub Tallied : List ℕ → Cursor → Type 0
Tallied s c = (c.count ≡ c.at) × (c.at ≤ length s)

-- the byte where a cursor stands, and the cursor behind it, which has counted it
unfoldable pub fetch_at : List ℕ → Cursor → Fetch
fetch_at s c = record { byte = get_or s c.at 0; behind = record { at = c.at + 1; count = c.count + 1 } }

-- the cursor that comes with an answer
abbrev pub end_of : Read → Cursor
end_of (Value v c) = c
end_of (Refused r c) = c

-- ---- what a count counts
-- a cursor has come about from the start by fetching the bytes of s at these places, one after another
pub data Fetched (s : List ℕ) : List ℕ → Cursor → Type 0 where
  start : Fetched s [] (cursor 0)
  next : {l : List ℕ} {c : Cursor} → Fetched s l c → c.at < length s → Fetched s (l ++ (c.at ∷ [])) (fetch_at s c).behind

-- the last of some places
unfoldable pub last_of : ℕ → List ℕ → ℕ
last_of x [] = x
last_of x (y ∷ l) = last_of y l

-- the number of bytes from the first to the last of some places
unfoldable pub span : List ℕ → ℕ
unfolding last_of
span [] = 0
span (x ∷ l) = suc (last_of x l) - x

-- ---- which byte decides
-- how many bytes the number at `at` has: a byte below 128 ends it, and so does a third one
unfoldable pub number_bytes : List ℕ → ℕ → ℕ
number_bytes s at = cond (ltb (get_or s at 0) 128) 1 (cond (ltb (get_or s (at + 1) 0) 128) 2 3)

-- how many bytes of s were fetched for a refusal. For 2, 3 and 4 the last of them is the last one of the number at the place named. For 1 the bytes ended. The
-- byte that 5 names is not fetched: nothing depends on what it is. 6 and 7 come after the last byte
unfoldable pub decided_by : List ℕ → Refusal → ℕ
unfolding number_bytes
decided_by s (Unfinished at) = length s
decided_by s (Malformed at) = at + number_bytes s at
decided_by s (OverLimit at) = at + number_bytes s at
decided_by s (UnknownSymbol at) = at + number_bytes s at
decided_by s (Trailing at) = at
decided_by s (Unproductive a) = length s
decided_by s (LeftRecursive a) = length s
