-- The test that the words of a range are 0.
use mathlib.Core.Path.{◌≡◌}
use mathlib.Core.List.{List}
use Prim.Native.Nat.{ℕ, ◌-◌, ◌≤◌, ◌<◌}
use native.Mathlib.Omega.{arith}
use lib.Dec.{T, eqb, eqb_refl, eqb→eq}
use Rattle.base.proofs.AllLaws.{all-T, T-all}
use Rattle.words.specs.Words.{word}
use Rattle.auditing.specs.Coherence.{zeros?}

-- the words from i up to j are 0
abbrev pub Zeros : List ℕ → ℕ → ℕ → Type 0
Zeros c i j = (k : ℕ) → i ≤ k → k < j → word c k ≡ 0

module _ (c : List ℕ) (i j : ℕ) where
  pub zeros-T : T (zeros? c i j) → Zeros c i j
  unfolding zeros?
  zeros-T t k l m = eqb→eq (word c k) 0 (all-T (λ (k : ℕ). eqb (word c k) 0) i (j - i) t k l (omega arith))

  pub T-zeros : Zeros c i j → T (zeros? c i j)
  unfolding zeros?
  T-zeros h = T-all (λ (k : ℕ). eqb (word c k) 0) i (j - i) (λ k l m. let e = h k l (omega arith) in rw e (eqb_refl 0))
