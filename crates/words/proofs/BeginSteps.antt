-- Beginning, and the test for refusal 13, by the code's ways out.
use mathlib.Core.Path.{◌≡◌, refl, sym, ap, ◌∙◌}
use mathlib.Core.Bool.{Bool, true, false, not, ◌&&◌}
use mathlib.Core.List.{List}
use Prim.Native.Nat.{ℕ, ◌≤◌, ◌<◌, ◌^◌}
use native.Mathlib.Omega.{arith}
use lib.ListN.{length, replicate, length-replicate}
use lib.Seq.{sets}
use borrow.Author.Tests.{lt-ltb, le-ltb, not-true, not-false}
use Rattle.std.specs.Prelude.{Ok, Err}
use Rattle.base.proofs.Booleans.{clash}
use Rattle.number.specs.declared.Refusal.{Refusal}
use Rattle.number.specs.Refusals.{refusal_number, refusal_place}
use Rattle.grammar.specs.Decode.{Rules, Parsed, got, refused, decode}
use Rattle.soundness.specs.Verdict.{Verdict}
use Rattle.soundness.specs.Check.{on_decoded, check_of}
use Rattle.derivation.specs.Gate.{Gate, at_gate}
use Rattle.derivation.proofs.GateLaws.{Checked, refuses, sound, sound-gate, sound-refuses}
use Rattle.words.specs.Layout.{min_words, length_at, bytes_at}
use Rattle.words.specs.Begin.{Begun, begun, pack_bytes, size_words, begin_words, begin12, beginning, begun?}
use Rattle.words.specs.inside.Bytes.{starts_with, sizes_held, bytes_held}
use Rattle.grammar.proofs.ByteLaws.{decode-few}

-- ---- refusal 13
module _ (bytes c : List ℕ) where
  by_parts : begun? bytes c ≡ (sizes_held (length bytes) c && bytes_held bytes c)
  unfolding begun? sizes_held bytes_held starts_with
  by_parts = refl

  module _ {b : Bool} (e : b ≡ sizes_held (length bytes) c) where
    pub other-sizes : not b ≡ true → false ≡ begun? bytes c
    other-sizes n = rw (by_parts, ← e, not-true b n)

    pub same-sizes : {r : Bool} → not b ≡ false → r ≡ bytes_held bytes c → r ≡ begun? bytes c
    same-sizes n f = rw (by_parts, ← e, not-false b n) f

-- ---- 12, and then every word is settled
module _ (bytes c : List ℕ) where
  pub short-cache : length c < min_words → begun 12 0 c ≡ begin12 bytes c
  unfolding begin12
  short-cache h = rw (lt-ltb (length c) min_words h)

  pub settled : {c₁ c₂ c₃ : List ℕ} → min_words ≤ length c → c₁ ≡ replicate (length c) 0 → c₂
      ≡ sets c₁ length_at (size_words (length bytes) (length c₁))
      → c₃ ≡ sets c₂ bytes_at (pack_bytes bytes) → begun 0 0 c₃ ≡ begin12 bytes c
  unfolding begin12 begin_words
  settled {c₁} {c₂} {c₃} h e f g =
      let q : length c₁ ≡ length c = ap (λ (l : List ℕ). length l) e ∙ length-replicate (length c) 0 in
      rw (le-ltb (length c) min_words h) (ap (begun 0 0) (rw (g, f, q, e)))

-- ---- 1 to 7, and then 12
module _ (bytes c : List ℕ) {v : Verdict} (e : v ≡ check_of bytes) where
  pub refused-is : {r : Refusal} → v ≡ Err r → begun (refusal_number r) (refusal_place r) c ≡ beginning bytes c
  unfolding beginning
  refused-is {r} h = rw (sound-refuses bytes r (sym e ∙ h))

  pub sound-is : {x : Begun} → v ≡ Ok tt → x ≡ begin12 bytes c → x ≡ beginning bytes c
  unfolding beginning
  sound-is {x} h b = go (sound-gate bytes)
    where
      go : {y : Gate} → Checked bytes y → x ≡ at_gate (λ n p. begun n p c) (λ g. begin12 bytes c) y
      go (refuses r q) = clash (cc)
      go (sound r m d q) = b

  pub sound-short : v ≡ Ok tt → length bytes < 2 ^ 10
  unfolding check_of
  sound-short h = go (decode bytes) refl (sym e ∙ h)
    where
      go : (d : Parsed Rules) → decode bytes ≡ d → on_decoded d ≡ Ok tt → length bytes < 2 ^ 10
      go (got y m) z q = let l = decode-few bytes y m z in omega arith
      go (refused f) z q = clash (cc)
