-- How the working space is laid out, as the code works it out.
use mathlib.Core.Path.{◌≡◌}
use mathlib.Core.List.{List}
use Prim.Native.Nat.{ℕ, ◌+◌, ◌*◌, ◌≤◌}
use native.Mathlib.Nat.{mul_comm}
use native.Mathlib.Numerals.{add-one}
use native.Mathlib.Omega.{arith}
use lib.ListN.{length}
use Rattle.grammar.specs.inside.Tables.{grammar_in}
use Rattle.derivation.specs.Space.{max_tokens}
use Rattle.derivation.specs.inside.Ready.{Ready}
use Rattle.gate.proofs.PassingLaws.{space-small}
use Rattle.machine.specs.inside.Space.{Spaced}

pub cells-small : (t w : List ℕ) → Ready t → {P : ℕ} → P ≡ (grammar_in t).size → length w ≤ max_tokens → (length w + 1) * P ≤ 32895
cells-small t w h {P} e l = omega (arith, mul_comm P (length w + 1), space-small t w h e l)

pub spaced-is : (t w : List ℕ) {P : ℕ} → P ≡ (grammar_in t).size → Spaced t w (record { places = P; base = 5 * ((length w + 1) * P) })
spaced-is t w e = record { places = e; base = rw (e, add-one) }
