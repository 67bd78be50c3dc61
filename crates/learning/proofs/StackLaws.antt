-- Kept configurations in order: those with the same stack stand together.
use mathlib.Core.Path.{◌≡◌, refl, sym, ap, ◌∙◌}
use mathlib.Core.Logic.{◌⊎◌, inl, inr}
use mathlib.Core.Bool.{Bool, false, ◌||◌}
use mathlib.Core.List.{List}
use Prim.Native.Nat.{ℕ, zero, suc, ◌+◌, ◌-◌, ◌≤◌, ◌<◌}
use native.Mathlib.Omega.{arith}
use lib.Dec.{eqb}
use borrow.Author.Tests.{eq-eqb}
use Rattle.base.specs.Rounds.{any_of}
use Rattle.base.proofs.Bits.{same?}
use Rattle.base.proofs.Booleans.{same, clash}
use Rattle.lookahead.specs.Configs.{Config, In}
use Rattle.lookahead.specs.Order.{stack_key, Packable}
use Rattle.lookahead.specs.Outcomes.{conflicts}
use Rattle.lookahead.proofs.KeyLaws.{key-stack}
use Rattle.lookahead.proofs.ListLaws.{get_in}
use Rattle.lookahead.proofs.OrderLaws.{Rising}
use Rattle.lookahead.proofs.TestLaws.{conflicts-right}
use Rattle.configurations.specs.declared.config.Packed.{Packed}
use Rattle.configurations.specs.inside.Packed.{config_of, packed_at}
use Rattle.configurations.specs.inside.Held.{config_at, configs_from}
use Rattle.configurations.proofs.ExactLaws.{packed-fits}
use Rattle.configurations.proofs.HeldLaws.{get-held, said_at}
use Rattle.learning.specs.inside.Told.{Judges}

module _ (ws : List ℕ) where
  held_in : (k n j : ℕ) → k ≤ j → j < k + n → In (config_at ws j) (configs_from ws k n)
  held_in k n j l h =
      let z : k + (j - k) ≡ j = omega arith in
      get_in (configs_from ws k n) (j - k) (get-held ws k n (j - k) (omega arith) ∙ rw z)

  held_fits : (k : ℕ) → Packable (config_at ws k)
  unfolding config_at
  held_fits k = packed-fits (packed_at ws k)

  -- ---- ascending ones are in the order of their stacks
  pub stacks-rise : (f m : ℕ) → Rising (configs_from ws f m) → (i j : ℕ) → f ≤ i → i ≤ j → j < f + m
      → stack_key (config_at ws i).stack ≤ stack_key (config_at ws j).stack
  unfolding Rising configs_from
  stacks-rise f zero r i j a b h = absurd (omega arith)
  stacks-rise f (suc m) (low, r) i j a b h = go (same? i f) (same? i j) (λ l. stacks-rise (suc f) m r i j l b (omega arith))
    where
      go : (i ≡ f) ⊎ (i ≡ f → ⊥) → (i ≡ j) ⊎ (i ≡ j → ⊥) → (suc f ≤ i → stack_key (config_at ws i).stack ≤ stack_key (config_at ws j).stack)
          → stack_key (config_at ws i).stack ≤ stack_key (config_at ws j).stack
      go p (inl q) rec = let z : stack_key (config_at ws i).stack ≡ stack_key (config_at ws j).stack = rw q in omega arith
      go (inl p) (inr q) rec =
          rw p (key-stack (config_at ws f) (config_at ws j) (held_fits j) (low (config_at ws j) (held_in (suc f) m j (omega arith) (omega arith))))
      go (inr p) (inr q) rec = rec (omega arith)

  -- ---- behind another stack than c's none has c's
  apart : (c d : Config) → stack_key c.stack < stack_key d.stack → conflicts c d ≡ false
  apart c d l =
      same (conflicts c d) false
      (λ t. let e : stack_key c.stack ≡ stack_key d.stack = ap stack_key ((conflicts-right c d).0 t).1 in absurd (omega arith)) (λ t. absurd t)

  all_apart : (c : Config) (j m : ℕ) → ((k : ℕ) → j ≤ k → k < j + m → stack_key c.stack < stack_key (config_at ws k).stack)
      → any_of (conflicts c) (configs_from ws j m) ≡ false
  unfolding any_of configs_from
  all_apart c j zero h = refl
  all_apart c j (suc m) h =
      rw (apart c (config_at ws j) (h j (omega arith) (omega arith))) (all_apart c (suc j) m (λ k a b. h k (omega arith) (omega arith)))

  module _ {f n : ℕ} (jd : Judges ws f n) (i j : ℕ) (from : f ≤ i) (behind : i ≤ j) (within : j < n) {c d : Packed}
      (at : c ≡ packed_at ws i) (is : d ≡ packed_at ws j) {r : Bool} (e : r ≡ eqb (stack_key (config_of c).stack) (stack_key (config_of d).stack)) where
    pub pair-past : r ≡ false → {w v : Bool} → (any_of (conflicts (config_of c)) (configs_from ws j (n - j)) || w) ≡ v → w ≡ v
    pair-past z {w} {v} h = ap (λ (b : Bool). b || w) (sym (all_apart (config_of c) j (n - j) above)) ∙ h
      where
        above : (k : ℕ) → j ≤ k → k < j + (n - j) → stack_key (config_of c).stack < stack_key (config_at ws k).stack
        above k a b =
            let p : stack_key (config_of c).stack ≡ stack_key (config_at ws i).stack = ap (λ (x : Config). stack_key x.stack) (said_at ws i at) in
            let q : stack_key (config_of d).stack ≡ stack_key (config_at ws j).stack = ap (λ (x : Config). stack_key x.stack) (said_at ws j is) in
            let s = jd.stacks i j from behind within in
            let t = jd.stacks j k (omega arith) a (omega arith) in
            let u : stack_key (config_of c).stack ≡ stack_key (config_of d).stack → ⊥
            = λ y. let x : r ≡ _ = e ∙ eq-eqb (stack_key (config_of c).stack) (stack_key (config_of d).stack) y in clash (cc) in
            omega arith
