-- Rounds of an operator that says yes only below n: one round more than n is closed, and what is closed below n is closed.
use mathlib.Core.Logic.{◌⊎◌, inl, inr}
use mathlib.Core.Bool.{Bool}
use mathlib.Core.List.{Memᴰ}
use Prim.Native.Nat.{ℕ, suc, ◌<◌}
use native.Mathlib.Omega.{arith}
use native.Mathlib.Decide.{dec_lt}
use lib.Dec.{T}
use Rattle.base.specs.Rounds.{rounds, up_from}
use Rattle.base.proofs.Lists.{length-up_from, up_from-in}
use Rattle.base.proofs.Fixpoint.{Within, settle}

module _ (F : (ℕ → Bool) → ℕ → Bool) (mono : (X Y : ℕ → Bool) → Within X Y → Within (F X) (F Y))
    (n : ℕ) (below : (X : ℕ → Bool) (a : ℕ) → T (F X a) → a < n) where
  settled : (a : ℕ) → Memᴰ a (up_from 0 n) ⊎ ((X Y : ℕ → Bool) → T (F X a) → T (F Y a))
  settled a = go (dec_lt a n)
    where
      go : Dec (a < n) → Memᴰ a (up_from 0 n) ⊎ ((X Y : ℕ → Bool) → T (F X a) → T (F Y a))
      go (yes l) = inl (up_from-in n 0 a (omega arith) (omega arith))
      go (no l) = inr (λ X Y t. absurd (l (below X a t)))

  pub rounds-closed : Within (F (rounds F (suc n))) (rounds F (suc n))
  rounds-closed = rw length-up_from at (settle F mono (up_from 0 n) settled)

  pub closed-from-below : (X : ℕ → Bool) → ((a : ℕ) → a < n → T (F X a) → T (X a)) → Within (F X) X
  closed-from-below X h a t = h a (below X a t) t
