-- Readings told in numbers are the answers of the definitions.
use mathlib.Core.Path.{◌≡◌}
use mathlib.Core.List.{List}
use Prim.Native.Nat.{ℕ}
use Rattle.std.specs.Prelude.{Ok, Err}
use Rattle.std.specs.Result.{result_unwrap_or}
use Rattle.derivation.specs.Plain.{Answer, answer}
use Rattle.gate.specs.Reading.{Reading, reading_number, reading_place, reading_count, answered}
use Rattle.adaptive.specs.Quick.{Reply, reply}
use Rattle.quick.specs.inside.Replied.{replied}

pub told : (r : Reading) (row : List ℕ) {n p c : ℕ} {x : Answer} → n ≡ reading_number r → p ≡ reading_place r → c ≡ reading_count r
    → answered r row ≡ x
    → answer n p c row ≡ x
told r row e f g h = rw (e, f, g) h

pub told-reply : (r : Reading) (row words : List ℕ) {n p c : ℕ} {x : Reply} → n ≡ reading_number r → p ≡ reading_place r → c ≡ reading_count r
    → replied r row words ≡ x → reply (answer n p c row) words ≡ x
told-reply r row words e f g h = rw (e, f, g) h

-- the entries of the row, 0 where there are none
pub told-count : (r : Reading) {n : ℕ} → n ≡ result_unwrap_or r 0 → n ≡ reading_count r
told-count (Ok x) e = e
told-count (Err x) e = e
