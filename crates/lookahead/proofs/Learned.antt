-- The laws of the learning rules in every grammar that is read from bytes: starts, and steps from any configurations that words can say.
use mathlib.Core.Path.{◌≡◌}
use mathlib.Core.Logic.{◌↔◌}
use mathlib.Core.List.{List}
use Prim.Native.Nat.{ℕ}
use native.Mathlib.Omega.{arith}
use Rattle.grammar.specs.Limits.{end_mark}
use Rattle.grammar.specs.Decode.{Rules}
use Rattle.grammar.specs.Grammar.{compile, Limited}
use Rattle.lookahead.specs.Configs.{Config, In}
use Rattle.lookahead.specs.Outcomes.{Outcome, state, start_configs, step_configs, start_outcome, step_outcome, States}
use Rattle.lookahead.specs.Order.{Packable}
use Rattle.lookahead.specs.Rules.{Starts, StepsOver, Each, Gives}
use Rattle.lookahead.specs.Given.{StartGives, StepGives}
use Rattle.lookahead.proofs.StepLaws.{start-exact, step-exact}
use Rattle.lookahead.proofs.OrderLaws.{ascending-one}
use Rattle.lookahead.proofs.Bounds.{Bounded, compile-bounded}
use Rattle.lookahead.proofs.Low.{Digit, start-low, step-low, packable-returns}
use Rattle.lookahead.proofs.StateLaws.{states-standing, states-ascending, states-packable}
use Rattle.lookahead.proofs.EndLaws.{mark-no-state}
use Rattle.lookahead.proofs.RuleLaws.{outcome-right}
use Rattle.lookahead.proofs.GivenLaws.{learns-listed}

module _ (r : Rules) (limits : Limited r) where
  bounded : Bounded (compile r)
  bounded = compile-bounded r limits

  -- the outcome of a start is what the rules give
  pub start_right : (a : ℕ) (o : Outcome) → Gives (compile r) (start_configs (compile r) a) o ↔ (start_outcome (compile r) a ≡ o)
  unfolding start_outcome
  start_right a o = outcome-right (compile r) (start_configs (compile r) a) bounded (start-low (compile r) bounded Digit (λ b h l. omega arith) a) o

  -- and so is the outcome of a step, from any configurations that packed values can say
  pub step_right : (ks : List Config) → Each Packable ks → (t : ℕ) (o : Outcome)
      → Gives (compile r) (step_configs (compile r) t ks) o ↔ (step_outcome (compile r) t ks ≡ o)
  unfolding step_outcome
  step_right ks p t o = outcome-right (compile r) (step_configs (compile r) t ks) bounded
      (step-low (compile r) bounded Digit t ks (λ c m. packable-returns c (p c m))) o

  -- the same of the starts and steps that the rules speak of, however they are listed
  pub start-learns : (a : ℕ) (o : Outcome) → StartGives (compile r) a o ↔ (start_outcome (compile r) a ≡ o)
  start-learns a o =
      let (to, back) = learns-listed (compile r) (Starts (compile r) a) (start_configs (compile r) a) (start-exact (compile r) a) o in
      let (f, h) = start_right a o in
      (λ x. f (to x), λ e. back (h e))

  pub step-learns : (ks : List Config) → Each Packable ks → (t : ℕ) (o : Outcome)
      → StepGives (compile r) t ks o ↔ (step_outcome (compile r) t ks ≡ o)
  step-learns ks p t o =
      let (to, back) = learns-listed (compile r) (StepsOver (compile r) t ks) (step_configs (compile r) t ks) (step-exact (compile r) t ks) o in
      let (f, h) = step_right ks p t o in
      (λ x. f (to x), λ e. back (h e))

  -- every state of a decision can be said by packed values
  pub states-said : {a : ℕ} {ks : List Config} → States (compile r) a ks → Each Packable ks
  states-said s = states-packable (compile r) bounded s

  -- two states are equal exactly if they hold the same configurations, whatever their decisions
  pub states-equal : {a b : ℕ} (ks ls : List Config) → States (compile r) a ks → States (compile r) b ls
      → (ks ≡ ls) ↔ ((c : Config) → In c ks ↔ In c ls)
  states-equal ks ls s t = (
    λ e c. rw e (λ m. m, λ m. m),
    λ h. ascending-one (states-ascending (compile r) bounded s) (states-ascending (compile r) bounded t) (λ c m. (h c).0 m) (λ c m. (h c).1 m),
  )

  -- a step over the end mark never gives a state
  pub mark-never : {a : ℕ} (ks ls : List Config) → States (compile r) a ks → ¬ (step_outcome (compile r) end_mark ks ≡ state ls)
  mark-never ks ls s = mark-no-state (compile r) bounded ks ls (states-standing (compile r) bounded s)
