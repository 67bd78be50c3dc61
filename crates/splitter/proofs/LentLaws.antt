-- A table of classes that is lent: how long it is, and what is read in it.
use mathlib.Core.Path.{◌≡◌, ap, ◌∙◌}
use mathlib.Core.List.{List}
use Prim.Native.Nat.{ℕ}
use lib.ListN.{length, get_or}
use Rattle.splitter.specs.Classes.{classes, class_of}

pub classes-long : {t : List ℕ} → t ≡ classes → length t ≡ 256
unfolding classes
classes-long e = ap length e

pub class-read : {t : List ℕ} {b k r : ℕ} → t ≡ classes → k ≡ b → r ≡ get_or t k 0 → r ≡ class_of b
unfolding class_of
class-read {t} {b} {k} {r} e f g = g ∙ ap (λ (x : List ℕ). get_or x k 0) e ∙ ap (λ (n : ℕ). get_or classes n 0) f
