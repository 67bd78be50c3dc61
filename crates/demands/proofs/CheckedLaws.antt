-- What comes of the gate of sound bytes, by what the check answered: for every call that begins with it.
use mathlib.Core.Path.{◌≡◌, refl}
use mathlib.Core.List.{List}
use Prim.Native.Nat.{ℕ}
use Rattle.std.specs.Prelude.{Ok}
use Rattle.base.proofs.Booleans.{clash}
use Rattle.grammar.specs.Decode.{Rules, Mark, got, decode}
use Rattle.grammar.specs.Grammar.{Grammar, compile}
use Rattle.soundness.specs.Check.{check_of, CheckDid}
use Rattle.soundness.proofs.VerdictLaws.{zero-sound}
use Rattle.derivation.specs.Gate.{Gate, at_gate, sound_gate}
use Rattle.derivation.proofs.GateLaws.{Checked, refuses, sound, sound-gate}

module _ {A : Type 0} (bytes : List ℕ) (refuse : ℕ → ℕ → A) (on : Grammar → A) where
  -- 1 to 7 are answered as the check answers them
  pub shut-is : (n p : ℕ) → CheckDid bytes n p → ¬ (n ≡ 0) → refuse n p ≡ at_gate refuse on (sound_gate bytes)
  shut-is n p (a, b) z = go (sound-gate bytes)
    where
      go : {x : Gate} → Checked bytes x → refuse n p ≡ at_gate refuse on x
      go (refuses r e) = rw (a, b, e)
      go (sound r m d v) = absurd (z (rw v at a))

  -- sound bytes pass
  pub open_is : (p : ℕ) → CheckDid bytes 0 p
      → (r : Rules) × (m : Mark) × (decode bytes ≡ got r m) × (on (compile r) ≡ at_gate refuse on (sound_gate bytes))
  open_is p k = go (zero-sound bytes p k) (sound-gate bytes)
    where
      go : check_of bytes ≡ Ok tt → {x : Gate} → Checked bytes x → (r : Rules) × (m : Mark) × (decode bytes ≡ got r m) × (on (compile r) ≡ at_gate refuse on x)
      go v (refuses r e) = clash (cc)
      go v (sound r m d w) = (r, m, d, refl)
