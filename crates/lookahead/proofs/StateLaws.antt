-- States: the kept configurations of a closed set, in ascending order; and no step over the end mark gives one.
use mathlib.Core.Path.{◌≡◌, refl, sym, subst}
use mathlib.Core.Logic.{◌↔◌}
use mathlib.Core.Bool.{Bool, true, false, ◌&&◌, not, cond}
use mathlib.Core.Option.{Option, none, some}
use mathlib.Core.List.{List, [], ◌∷◌}
use Prim.Native.Nat.{ℕ, ◌≤◌}
use native.Mathlib.Omega.{arith}
use lib.Dec.{T, ltb}
use lib.ListN.{length}
use borrow.Author.Tests.{ltb-false}
use Rattle.base.proofs.Booleans.{clash}
use Rattle.grammar.specs.Grammar.{Grammar}
use Rattle.lookahead.specs.Configs.{Config, In, Closes}
use Rattle.lookahead.specs.Closing.{max_kept, close}
use Rattle.lookahead.specs.Order.{kept?, Packable, Ascending, kept}
use Rattle.lookahead.specs.Outcomes.{Outcome, full, alternative, state, agreed, shared, settled, resolved, judged}
use Rattle.lookahead.specs.Outcomes.{within_kept, outcome, start_configs, step_configs, start_outcome, step_outcome, States, begun, stepped}
use Rattle.lookahead.specs.Rules.{Each}
use Rattle.lookahead.proofs.CloseLaws.{Closure, close-some}
use Rattle.lookahead.proofs.OrderLaws.{kept-right, kept-ascending, kept-equal}
use Rattle.lookahead.proofs.Bounds.{Bounded}
use Rattle.lookahead.proofs.Standing.{Standing, closes-standing, start-standing, step-standing}
use Rattle.lookahead.proofs.Low.{Digit, standing-low, members-packable}

-- ---- the rules give no other state than the kept configurations, and not more than 64
resolved-state : (ks : List Config) {ls : List Config} → resolved ks ≡ state ls → ks ≡ ls
unfolding resolved
resolved-state ks {ls} e = go (shared ks && not (settled ks)) e
  where
    go : (b : Bool) → cond b full (state ks) ≡ state ls → ks ≡ ls
    go true e = clash (cc)
    go false e = cc

judged-state : (ks : List Config) {ls : List Config} → judged ks ≡ state ls → ks ≡ ls
unfolding judged
judged-state [] e = clash (cc)
judged-state (k ∷ ks) {ls} e = go (agreed k.alternative ks) e
  where
    go : (b : Bool) → cond b (alternative k.alternative) (resolved (k ∷ ks)) ≡ state ls → k ∷ ks ≡ ls
    go true e = clash (cc)
    go false e = resolved-state (k ∷ ks) e

limited-state : (ks : List Config) {ls : List Config} → within_kept ks ≡ state ls → (ks ≡ ls) × (length ks ≤ max_kept) × (judged ls ≡ state ls)
unfolding within_kept
limited-state ks {ls} e = go (ltb max_kept (length ks)) refl e
  where
    go : (b : Bool) → ltb max_kept (length ks) ≡ b → cond b full (judged ks) ≡ state ls → (ks ≡ ls) × (length ks ≤ max_kept)
        × (judged ls ≡ state ls)
    go true h e = clash (cc)
    go false h e = let q = judged-state ks e in (q, ltb-false max_kept (length ks) h, subst (λ (l : List Config). judged l ≡ state ls) q e)

-- a closed set whose kept configurations are the state
pub record Holds (g : Grammar) (start ks : List Config) : Type 0 where
  pub members : List Config
  pub closure : Closure g start members
  pub same : kept g members ≡ ks
  pub few : length ks ≤ max_kept
  pub rules : judged ks ≡ state ks

module _ (g : Grammar) where
  pub outcome-state : (start ks : List Config) → outcome g start ≡ state ks → Holds g start ks
  unfolding outcome
  outcome-state start ks e = go (close g start) refl e
    where
      go : (o : Option (List Config)) → close g start ≡ o → (elim o as (λ _. Outcome) [ none ↦ full | some ms ↦ within_kept (kept g ms) ]) ≡ state ks
          → Holds g start ks
      go none q e = clash (cc)
      go (some ms) q e =
          let h = limited-state (kept g ms) e in
          record {
            members = ms;
            closure = close-some g start ms q;
            same = h.0;
            few = subst (λ (l : List Config). length l ≤ max_kept) h.0 h.1;
            rules = h.2;
          }

  -- a state holds exactly what is kept of all that the moves reach
  pub state-exact : (start ks : List Config) → outcome g start ≡ state ks → (c : Config) → In c ks ↔ (Closes g start c × T (kept? g c))
  state-exact start ks e c =
      let h = outcome-state start ks e in (
        λ m. let x = (kept-right g h.members c).0 (subst (In c) (sym h.same) m) in ((h.closure.exact c).0 x.0, x.1),
        λ x. subst (In c) h.same ((kept-right g h.members c).1 ((h.closure.exact c).1 x.0, x.1)),
      )

  module _ (bounded : Bounded g) where
    standing-packable : (start ms : List Config) → Each (Standing g) start → Closure g start ms → Each Packable ms
    standing-packable start ms s h = members-packable g bounded start ms (λ c m. standing-low g bounded Digit (λ b h l. omega arith) c (s c m)) h

    -- a state is in ascending order
    pub state-ascending : (start ks : List Config) → Each (Standing g) start → outcome g start ≡ state ks → Ascending ks
    state-ascending start ks s e =
        let h = outcome-state start ks e in
        subst Ascending h.same (kept-ascending g h.members h.closure.distinct (standing-packable start h.members s h.closure))

    -- equal lists exactly if equal sets
    pub closed-equal : (s t ms ns : List Config) → Each (Standing g) s → Each (Standing g) t → close g s ≡ some ms → close g t ≡ some ns
        → (kept g ms ≡ kept g ns) ↔ ((c : Config) → T (kept? g c) → Closes g s c ↔ Closes g t c)
    closed-equal s t ms ns hs ht es et = (λ q c k. there c (law.0 q c k), λ q. law.1 (λ c k. back c (q c k)))
      where
        x : Closure g s ms
        x = close-some g s ms es

        y : Closure g t ns
        y = close-some g t ns et

        law : (kept g ms ≡ kept g ns) ↔ ((c : Config) → T (kept? g c) → In c ms ↔ In c ns)
        law = kept-equal g ms ns x.distinct y.distinct (standing-packable s ms hs x) (standing-packable t ns ht y)

        there : (c : Config) → In c ms ↔ In c ns → Closes g s c ↔ Closes g t c
        there c (f, b) = (λ r. (y.exact c).0 (f ((x.exact c).1 r)), λ r. (x.exact c).0 (b ((y.exact c).1 r)))

        back : (c : Config) → Closes g s c ↔ Closes g t c → In c ms ↔ In c ns
        back c (f, b) = (λ r. (y.exact c).1 (f ((x.exact c).0 r)), λ r. (x.exact c).1 (b ((y.exact c).0 r)))

    state-stands : (start ks : List Config) → Each (Standing g) start → outcome g start ≡ state ks → Each (Standing g) ks
    state-stands start ks s e c m = closes-standing g bounded s ((state-exact start ks e c).0 m).0

    -- every state of a decision
    pub states-standing : {a : ℕ} {ks : List Config} → States g a ks → Each (Standing g) ks
    unfolding start_outcome step_outcome
    states-standing {a} (begun {ks = ks} e) = state-stands (start_configs g a) ks (start-standing g bounded a) e
    states-standing (stepped {ks = ks} {ls = ls} t s e) = state-stands (step_configs g t ks) ls (step-standing g bounded t ks (states-standing s)) e

    pub states-ascending : {a : ℕ} {ks : List Config} → States g a ks → Ascending ks
    unfolding start_outcome step_outcome
    states-ascending {a} (begun {ks = ks} e) = state-ascending (start_configs g a) ks (start-standing g bounded a) e
    states-ascending (stepped {ks = ks} {ls = ls} t s e) = state-ascending (step_configs g t ks) ls (step-standing g bounded t ks (states-standing s)) e

    state-packable : (start ks : List Config) → Each (Standing g) start → outcome g start ≡ state ks → Each Packable ks
    state-packable start ks s e c m =
        let h = outcome-state start ks e in
        standing-packable start h.members s h.closure c ((kept-right g h.members c).0 (subst (In c) (sym h.same) m)).0

    pub states-packable : {a : ℕ} {ks : List Config} → States g a ks → Each Packable ks
    unfolding start_outcome step_outcome
    states-packable {a} (begun {ks = ks} e) = state-packable (start_configs g a) ks (start-standing g bounded a) e
    states-packable (stepped {ks = ks} {ls = ls} t s e) = state-packable (step_configs g t ks) ls (step-standing g bounded t ks (states-standing s)) e
