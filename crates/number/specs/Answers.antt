-- What the scope says of an answer that may be a refusal.
use Rattle.std.specs.Prelude.{ℕ, Result, Ok, Err}

-- 0 where nothing is refused, else what is said of the refusal: its number, or its place
abbrev pub told : {T E : Type 0} → (E → ℕ) → Result T E → ℕ
told of (Ok x) = 0
told of (Err e) = of e
