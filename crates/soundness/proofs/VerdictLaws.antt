-- A verdict's number and place tell the verdict: a caller who knows both, knows it.
use mathlib.Core.Path.{◌≡◌, refl, sym, ◌∙◌}
use mathlib.Core.List.{List}
use Prim.Native.Nat.{ℕ, zero, suc}
use Rattle.std.specs.Prelude.{Ok, Err}
use Rattle.number.specs.declared.Refusal.TheVariants.{Unfinished, Malformed, OverLimit, UnknownSymbol, Trailing, Unproductive, LeftRecursive}
use Rattle.soundness.specs.Verdict.{Verdict}
use Rattle.soundness.specs.Check.{check_of, verdict_number, verdict_place, CheckDid}

-- the verdict of a number and a place
abbrev verdict_from : ℕ → ℕ → Verdict
verdict_from zero p = Ok tt
verdict_from (suc zero) p = Err (Unfinished p)
verdict_from (suc (suc zero)) p = Err (Malformed p)
verdict_from (suc (suc (suc zero))) p = Err (OverLimit p)
verdict_from (suc (suc (suc (suc zero)))) p = Err (UnknownSymbol p)
verdict_from (suc (suc (suc (suc (suc zero))))) p = Err (Trailing p)
verdict_from (suc (suc (suc (suc (suc (suc zero)))))) p = Err (Unproductive p)
verdict_from (suc (suc (suc (suc (suc (suc (suc n))))))) p = Err (LeftRecursive p)

from_told : (v : Verdict) → verdict_from (verdict_number v) (verdict_place v) ≡ v
from_told (Ok tt) = refl
from_told (Err (Unfinished p)) = refl
from_told (Err (Malformed p)) = refl
from_told (Err (OverLimit p)) = refl
from_told (Err (UnknownSymbol p)) = refl
from_told (Err (Trailing p)) = refl
from_told (Err (Unproductive p)) = refl
from_told (Err (LeftRecursive p)) = refl

-- what a check answered is the verdict on the bytes
pub check-is : (bytes : List ℕ) (v : Verdict) → CheckDid bytes (verdict_number v) (verdict_place v) → v ≡ check_of bytes
check-is bytes v (n, p) =
    let same : verdict_from (verdict_number v) (verdict_place v)
    ≡ verdict_from (verdict_number (check_of bytes)) (verdict_place (check_of bytes)) = rw (n, p) in
    sym (from_told v) ∙ same ∙ from_told (check_of bytes)

-- one that answered 0 found them sound
pub zero-sound : (bytes : List ℕ) (place : ℕ) → CheckDid bytes 0 place → check_of bytes ≡ Ok tt
zero-sound bytes place (n, p) = sym (from_told (check_of bytes)) ∙ rw (← n)
