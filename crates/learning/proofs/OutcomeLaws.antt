-- The outcome as a whole: from the closed set and the judged configurations to what the code tells.
use mathlib.Core.Path.{◌≡◌, refl, sym, subst, ap, ◌∙◌}
use mathlib.Core.Option.{Option, none, some}
use mathlib.Core.List.{List, []}
use Prim.Native.Nat.{ℕ, ◌-◌, ◌<◌}
use native.Mathlib.Omega.{arith}
use lib.ListN.{length}
use borrow.Author.Tests.{lt-ltb, le-ltb}
use Rattle.grammar.specs.Grammar.{Grammar}
use Rattle.lookahead.specs.Configs.{Config}
use Rattle.lookahead.specs.Closing.{max_members, max_kept, add_all, close_from, close}
use Rattle.lookahead.specs.Order.{kept}
use Rattle.lookahead.specs.Outcomes.{Outcome, full, judged, within_kept, outcome, start_configs, step_configs, start_outcome, step_outcome}
use Rattle.lookahead.proofs.OrderLaws.{Rising, kept-rising}
use Rattle.std.specs.Prelude.{Some, None}
use Rattle.configurations.specs.inside.Held.{Added, configs_from, held_after, Grows, Stands, Sorted}
use Rattle.configurations.proofs.HeldLaws.{length-held}
use Rattle.configurations.proofs.GrowSteps.{then, then-on}
use Rattle.learning.specs.declared.rules.Outcome as told
use Rattle.learning.specs.declared.rules.Outcome.TheVariants as tells
use Rattle.learning.specs.inside.Told.{Tells, Judges, outcome_of}
use Rattle.learning.proofs.StackLaws.{stacks-rise}

-- ---- the outcome as a whole
-- the close gave nothing
pub finish-over : {r : Added} {ms : List ℕ} {o : Option (List Config)} (g : Grammar) → Grows r ms o → r ≡ None → (ws : List ℕ)
    → Tells tells.Full ws (outcome_of g o)
unfolding Tells outcome_of held_after
finish-over {r} {ms} {o} g a e ws =
    let q : none ≡ o = subst (λ (y : Added). held_after y ms ≡ o) e a.is in
    ap (outcome_of g) (sym q)

module _ (g : Grammar) {r : Added} {ms : List ℕ} {o : Option (List Config)} (a : Grows r ms o) (n : ℕ) (e : r ≡ Some n) where
  closed : outcome_of g o ≡ within_kept (kept g (configs_from ms 0 n))
  unfolding outcome_of held_after
  closed = let q : some (configs_from ms 0 n) ≡ o = subst (λ (y : Added). held_after y ms ≡ o) e a.is in ap (outcome_of g) (sym q)

  module _ {s : Added} (ms' : List ℕ) (b : Sorted s ms' n (kept g (configs_from ms 0 n))) where
    pub finish-many : s ≡ None → (ws : List ℕ) → Tells tells.Full ws (outcome_of g o)
    unfolding Tells Sorted within_kept
    finish-many d ws =
        let l : max_kept < length (kept g (configs_from ms 0 n)) = subst (λ (y : Added). Sorted y ms' n (kept g (configs_from ms 0 n))) d b in
        closed ∙ rw (lt-ltb max_kept (length (kept g (configs_from ms 0 n))) l)

    module _ (f : ℕ) (d : s ≡ Some f) where
      abbrev ks : List Config
      ks = configs_from ms' f (n - f)

      finish-stands : Stands ms' f n (kept g (configs_from ms 0 n))
      unfolding Sorted
      finish-stands = subst (λ (y : Added). Sorted y ms' n (kept g (configs_from ms 0 n))) d b

      judged-is : outcome_of g o ≡ judged (configs_from ms' f (n - f))
      unfolding within_kept
      judged-is =
          let z : within_kept (kept g (configs_from ms 0 n)) ≡ judged (kept g (configs_from ms 0 n)) =
          rw (le-ltb max_kept (length (kept g (configs_from ms 0 n))) finish-stands.few) in
          closed ∙ z ∙ ap judged (sym finish-stands.are)

      -- they can be judged, and what is told of them is told of the outcome
      pub finish-judges : Judges ms' f n
      finish-judges = record {
        within = finish-stands.within;
        room = finish-stands.room;
        few = omega (arith, ap length finish-stands.are, length-held ms' f (n - f), finish-stands.few);
        stacks = λ i j a b h.
            stacks-rise ms' f (n - f) (subst Rising (sym finish-stands.are) (kept-rising g (configs_from ms 0 n))) i j a b (omega arith);
      }

      pub finish-judged : (x : told.Outcome) → Tells x ms' (judged ks) → Tells x ms' (outcome_of g o)
      finish-judged x t = subst (Tells x ms') (sym judged-is) t

-- ---- starts and steps
module _ (g : Grammar) (start : List Config) where
  outcome-is : outcome g start ≡ outcome_of g (then (add_all [] start) (λ ms. close_from g max_members 0 ms))
  unfolding outcome close outcome_of
  outcome-is = go (add_all [] start)
    where
      go : (o : Option (List Config))
          → (elim (elim o as (λ _. Option (List Config)) [ none ↦ none | some ms ↦ close_from g max_members 0 ms ]) as (λ _. Outcome)
          [ none ↦ full | some ms ↦ within_kept (kept g ms) ]) ≡ outcome_of g (then o (λ ms. close_from g max_members 0 ms))
      go none = refl
      go (some ms) = inner (close_from g max_members 0 ms)
        where
          inner : (o : Option (List Config)) → (elim o as (λ _. Outcome) [ none ↦ full | some ms ↦ within_kept (kept g ms) ]) ≡ outcome_of g o
          inner none = refl
          inner (some ms) = refl

  module _ {r : Added} {ms : List ℕ} (a : Grows r ms (add_all [] start)) where
    learn-full : r ≡ None → (ws : List ℕ) → Tells tells.Full ws (outcome g start)
    unfolding Tells outcome_of held_after
    learn-full e ws =
        let q : none ≡ add_all [] start = subst (λ (y : Added). held_after y ms ≡ add_all [] start) e a.is in
        outcome-is ∙ ap (λ (o : Option (List Config)). outcome_of g (then o (λ ms. close_from g max_members 0 ms))) (sym q)

    learn-on : (n : ℕ) → r ≡ Some n → (x : told.Outcome) (ws : List ℕ) → Tells x ws (outcome_of g (close_from g max_members 0 (configs_from ms 0 n)))
        → Tells x ws (outcome g start)
    learn-on n e x ws t =
        let q : close_from g max_members 0 (configs_from ms 0 n) ≡ then (add_all [] start) (λ ms. close_from g max_members 0 ms) =
        then-on a (λ ms. close_from g max_members 0 ms) refl n e in
        subst (Tells x ws) (ap (outcome_of g) q ∙ sym outcome-is) t

module _ (g : Grammar) (a : ℕ) {r : Added} {ms : List ℕ} (A : Grows r ms (add_all [] (start_configs g a))) where
  pub start-full : r ≡ None → (ws : List ℕ) → Tells tells.Full ws (start_outcome g a)
  unfolding start_outcome
  start-full e ws = learn-full g (start_configs g a) A e ws

  pub start-on : (n : ℕ) → r ≡ Some n → (x : told.Outcome) (ws : List ℕ) → Tells x ws (outcome_of g (close_from g max_members 0 (configs_from ms 0 n)))
      → Tells x ws (start_outcome g a)
  unfolding start_outcome
  start-on n e x ws t = learn-on g (start_configs g a) A n e x ws t

module _ (g : Grammar) (t : ℕ) (ks : List Config) {r : Added} {ms : List ℕ} (A : Grows r ms (add_all [] (step_configs g t ks))) where
  pub step-full : r ≡ None → (ws : List ℕ) → Tells tells.Full ws (step_outcome g t ks)
  unfolding step_outcome
  step-full e ws = learn-full g (step_configs g t ks) A e ws

  pub step-on : (n : ℕ) → r ≡ Some n → (x : told.Outcome) (ws : List ℕ) → Tells x ws (outcome_of g (close_from g max_members 0 (configs_from ms 0 n)))
      → Tells x ws (step_outcome g t ks)
  unfolding step_outcome
  step-on n e x ws t' = learn-on g (step_configs g t ks) A n e x ws t'
