-- What a beginning that answers 0 means: the bytes are a sound grammar, the cache is long enough, and its words have begun.
use mathlib.Core.Path.{◌≡◌, refl}
use mathlib.Core.Bool.{Bool, true, false, cond}
use mathlib.Core.List.{List}
use Prim.Native.Nat.{ℕ, ◌≤◌}
use native.Mathlib.Omega.{arith}
use lib.Dec.{ltb}
use lib.ListN.{length}
use borrow.Author.Tests.{ltb-false}
use Rattle.std.specs.Prelude.{Ok}
use Rattle.base.proofs.Booleans.{clash}
use Rattle.grammar.specs.Decode.{Rules, Mark, got, decode}
use Rattle.soundness.specs.Check.{check_of}
use Rattle.derivation.specs.Gate.{Gate, at_gate}
use Rattle.derivation.proofs.GateLaws.{Checked, refuses, sound-gate, refusal-early}
use Rattle.words.specs.Layout.{min_words}
use Rattle.words.specs.Begin.{Begun, begun, begin_words, begin12, beginning}

pub record Begins (s c₀ c : List ℕ) : Type 0 where
  pub rules : Rules
  pub mark : Mark
  pub decoded : decode s ≡ got rules mark
  pub sound : check_of s ≡ Ok tt
  pub long : min_words ≤ length c₀
  pub words : c ≡ begin_words s (length c₀)

long-begins : (s c₀ : List ℕ) (r : Rules) (m : Mark) → decode s ≡ got r m → check_of s ≡ Ok tt → (begin12 s c₀).number ≡ 0
    → Begins s c₀ (begin12 s c₀).words
unfolding begin12
long-begins s c₀ r m d v z = go (ltb (length c₀) min_words) refl z
  where
    go : (b : Bool) → ltb (length c₀) min_words ≡ b → (cond b (begun 12 0 c₀) (begun 0 0 (begin_words s (length c₀)))).number ≡ 0
        → Begins s c₀ (cond b (begun 12 0 c₀) (begun 0 0 (begin_words s (length c₀)))).words
    go true e z = clash (cc)
    go false e z = record { rules = r; mark = m; decoded = d; sound = v; long = ltb-false (length c₀) min_words e; words = refl }

pub begins : (s c₀ : List ℕ) → (beginning s c₀).number ≡ 0 → Begins s c₀ (beginning s c₀).words
unfolding beginning
begins s c₀ z = go (sound-gate s) z
  where
    after : Gate → Begun
    after x = at_gate (λ n p. begun n p c₀) (λ g. begin12 s c₀) x

    go : {x : Gate} → Checked s x → (after x).number ≡ 0 → Begins s c₀ (after x).words
    go (refuses r q) z = let h = (refusal-early r).0.some in absurd (omega arith)
    go (Checked.sound r m d q) z = long-begins s c₀ r m d q z
