-- `outcome` gives what the five rules give, and they give one outcome only.
use mathlib.Core.Path.{◌≡◌, refl, sym, subst, ap, ◌∙◌}
use mathlib.Core.Logic.{◌↔◌}
use mathlib.Core.Bool.{Bool, true, false, ◌&&◌, not, cond}
use mathlib.Core.Option.{Option, none, some}
use mathlib.Core.List.Memᴰ
use mathlib.Core.List.{List, [], ◌∷◌}
use Prim.Native.Nat.{ℕ, ◌≤◌}
use native.Mathlib.Omega.{arith}
use lib.Dec.{T, T_not, not_T, ltb}
use lib.ListN.{length}
use borrow.Author.Tests.{ltb-true, ltb-false}
use Rattle.base.proofs.Booleans.{and_T, T_and, true→T, false→¬T}
use Rattle.grammar.specs.Grammar.{Grammar}
use Rattle.lookahead.specs.Configs.{Config, In}
use Rattle.lookahead.specs.Closing.{max_kept}
use Rattle.lookahead.specs.Order.{kept, Ascending, none, next}
use Rattle.lookahead.specs.Outcomes.{Outcome, full, alternative, state, rivals, agreed, shared, settled, resolved, judged, within_kept, outcome}
use Rattle.base.specs.Lists.{Distinct, nil, also}
use Rattle.lookahead.specs.Rules.{Each, Keeps, TooLarge, closed-over, kept-many, Nothing, Agreed, Rival, Conflict, Kept, Gives}
use Rattle.lookahead.specs.Rules.{rule1, rule2, rule3, rule4, rule5}
use Rattle.lookahead.proofs.ListLaws.{distinct-short}
use Rattle.lookahead.proofs.CloseLaws.{Closure, Closed, over, whole, close-right, within}
use Rattle.lookahead.proofs.OrderLaws.{ascending-one, kept-right, kept-ascending}
use Rattle.lookahead.proofs.Bounds.{Bounded}
use Rattle.lookahead.proofs.Low.{Low, Digit, members-packable}
use Rattle.lookahead.proofs.TestLaws.{waits-right, rivals-right, conflicts-right, agreed-not, agreed-first, shared-out, shared-in, settled-out}
use Rattle.lookahead.proofs.TestLaws.{settled-in}

ascending-distinct : {l : List Config} → Ascending l → Distinct l
ascending-distinct Ascending.none = nil
ascending-distinct (next {c = c} {l = l} a s) = also (λ m. let h = a c m in absurd (omega arith)) (ascending-distinct s)

module _ (g : Grammar) (start : List Config) where
  -- ---- the rules give one outcome
  kept-one : {ks ls : List Config} → Kept g start ks → Kept g start ls → ks ≡ ls
  kept-one x y = ascending-one x.ascending y.ascending (λ c m. (y.exact c).1 ((x.exact c).0 m)) (λ c m. (x.exact c).1 ((y.exact c).0 m))

  pub gives_one : {o p : Outcome} → Gives g start o → Gives g start p → o ≡ p
  gives_one (rule1 t) (rule1 t') = refl
  gives_one (rule1 t) (rule2 n z) = refl
  gives_one (rule1 t) (rule3 n y a) = absurd (n t)
  gives_one (rule1 t) (rule4 n y a c) = refl
  gives_one (rule1 t) (rule5 n y a c k) = absurd (n t)
  gives_one (rule2 n z) (rule1 t) = refl
  gives_one (rule2 n z) (rule2 n' z') = refl
  gives_one (rule2 n z) (rule3 n' y a) = absurd (y z)
  gives_one (rule2 n z) (rule4 n' y a c) = refl
  gives_one (rule2 n z) (rule5 n' y a c k) = absurd (y z)
  gives_one (rule3 n y a) (rule1 t) = absurd (n t)
  gives_one (rule3 n y a) (rule2 n' z) = absurd (y z)
  gives_one (rule3 n y a) (rule3 n' y' a') = ap alternative (sym (a.all a.one a.keeps) ∙ a'.all a.one a.keeps)
  gives_one (rule3 {b = b} n y a) (rule4 n' y' a' c) = absurd (a' b a)
  gives_one (rule3 {b = b} n y a) (rule5 n' y' a' c k) = absurd (a' b a)
  gives_one (rule4 n y a c) (rule1 t) = refl
  gives_one (rule4 n y a c) (rule2 n' z) = refl
  gives_one (rule4 n y a c) (rule3 {b = b} n' y' a') = absurd (a b a')
  gives_one (rule4 n y a c) (rule4 n' y' a' c') = refl
  gives_one (rule4 n y a c) (rule5 n' y' a' c' k) = absurd (c' c)
  gives_one (rule5 n y a c k) (rule1 t) = absurd (n t)
  gives_one (rule5 n y a c k) (rule2 n' z) = absurd (y z)
  gives_one (rule5 n y a c k) (rule3 {b = b} n' y' a') = absurd (a b a')
  gives_one (rule5 n y a c k) (rule4 n' y' a' c') = absurd (c c')
  gives_one (rule5 n y a c k) (rule5 n' y' a' c' k') = ap state (kept-one k k')

  -- ---- rules 2 to 5, of the list of all that is kept
  module _ (small : ¬ TooLarge g start) where
    rival-from : (ks : List Config) → Kept g start ks → (c d : Config) → In d ks → T (rivals c d) → Rival g start c
    rival-from ks h c d m t = let r = (rivals-right c d).0 t in record { other = d; keeps = (h.exact d).0 m; place = r.0; apart = r.1 }

    rival-to : (ks : List Config) → Kept g start ks → (c : Config) → Rival g start c → (d : Config) × In d ks × T (rivals c d)
    rival-to ks h c r = (r.other, (h.exact r.other).1 r.keeps, (rivals-right c r.other).1 (r.place, r.apart))

    conflict-from : (ks : List Config) → Kept g start ks → T (shared ks) → ¬ T (settled ks) → Conflict g start
    unfolding rival-from
    conflict-from ks h s n =
        let (c, d, m, k, t) = shared-out ks s in
        let x = (conflicts-right c d).0 t in
        record {
          one = c;
          keeps = (h.exact c).0 m;
          rival = rival-from ks h c d k x.0;
          stack = x.1;
          none-alone = λ e y. let z = settled-out ks n e ((h.exact e).1 y) in rival-from ks h e z.0 z.1 z.2;
        }

    conflict-to : (ks : List Config) → Kept g start ks → Conflict g start → T (shared ks && not (settled ks))
    unfolding rival-to
    conflict-to ks h x =
        let r = rival-to ks h x.one x.rival in
        T_and (shared ks) (not (settled ks))
        (shared-in ks x.one r.0 ((h.exact x.one).1 x.keeps) r.1 ((conflicts-right x.one r.0).1 (r.2, x.stack)))
        (not_T (settled ks) (settled-in ks (λ c m. rival-to ks h c (x.none-alone c ((h.exact c).0 m)))))

    resolved-gives : (ks : List Config) → Kept g start ks → ¬ Nothing g start → ((b : ℕ) → ¬ Agreed g start b) → Gives g start (resolved ks)
    unfolding resolved
    resolved-gives ks h some-kept apart = go (shared ks && not (settled ks)) refl
      where
        go : (b : Bool) → (shared ks && not (settled ks)) ≡ b → Gives g start (cond b full (state ks))
        go true e =
            let t = and_T (shared ks) (not (settled ks)) (true→T (shared ks && not (settled ks)) e) in
            rule4 small some-kept apart (conflict-from ks h t.0 (T_not (settled ks) t.1))
        go false e = rule5 small some-kept apart (λ x. false→¬T (shared ks && not (settled ks)) e (conflict-to ks h x)) h

    judged-gives : (ks : List Config) → Kept g start ks → Gives g start (judged ks)
    unfolding judged
    judged-gives [] h = rule2 small (λ c y. Memᴰ.not-nil ((h.exact c).1 y))
    judged-gives (k ∷ ks) h = go (agreed k.alternative ks) refl
      where
        k-keeps : Keeps g start k
        k-keeps = (h.exact k).0 (Memᴰ.head refl)

        one : ¬ Nothing g start
        one n = n k k-keeps

        go : (b : Bool) → agreed k.alternative ks ≡ b → Gives g start (cond b (alternative k.alternative) (resolved (k ∷ ks)))
        go true e = rule3 small one (record
            { one = k; keeps = k-keeps; all = λ c y. agreed-first k ks (true→T (agreed k.alternative ks) e) c ((h.exact c).1 y) })
        go false e =
            let (d, m, n) = agreed-not k.alternative ks (false→¬T (agreed k.alternative ks) e) in
            resolved-gives (k ∷ ks) h one (λ b x. n (x.all d ((h.exact d).0 (Memᴰ.tail m)) ∙ sym (x.all k k-keeps)))

  -- ---- rule 1
  module _ (bounded : Bounded g) (low : Each (Low Digit) start) where
    whole-kept : (ms : List Config) → Closure g start ms → Kept g start (kept g ms)
    whole-kept ms x = record {
      ascending = kept-ascending g ms x.distinct (members-packable g bounded start ms low x);
      exact = λ c. (
        λ m. let y = (kept-right g ms c).0 m in ((x.exact c).0 y.0, (waits-right g c).0 y.1),
        λ y. (kept-right g ms c).1 ((x.exact c).1 y.0, (waits-right g c).1 y.1),
      );
    }

    fits : (ms : List Config) → Closure g start ms → length (kept g ms) ≤ max_kept → ¬ TooLarge g start
    fits ms x l (closed-over y) = within g start x y
    fits ms x l (kept-many y) = let k = distinct-short y.distinct (kept g ms) (λ c m. ((whole-kept ms x).exact c).1 (y.each c m)) in
        absurd (omega (arith, y.more))

    limited-gives : (ms : List Config) → Closure g start ms → Gives g start (within_kept (kept g ms))
    unfolding within_kept
    limited-gives ms x = go (ltb max_kept (length (kept g ms))) refl
      where
        go : (b : Bool) → ltb max_kept (length (kept g ms)) ≡ b → Gives g start (cond b full (judged (kept g ms)))
        go true e = rule1 (kept-many (record {
          listed = kept g ms;
          distinct = ascending-distinct (whole-kept ms x).ascending;
          each = λ c m. ((whole-kept ms x).exact c).0 m;
          more = ltb-true max_kept (length (kept g ms)) e;
        }))
        go false e = judged-gives (fits ms x (ltb-false max_kept (length (kept g ms)) e)) (kept g ms) (whole-kept ms x)

    -- the computed outcome is the one that the rules give
    pub outcome-gives : Gives g start (outcome g start)
    unfolding outcome
    outcome-gives = go (close-right g start)
      where
        go : {o : Option (List Config)} → Closed g start o → Gives g start (elim o as (λ _. Outcome) [ none ↦ full | some ms ↦ within_kept (kept g ms) ])
        go (over x) = rule1 (closed-over x)
        go (whole {ms = ms} x) = limited-gives ms x

    -- so the rules settle it, whatever the order in which members were found
    pub outcome-right : (o : Outcome) → Gives g start o ↔ (outcome g start ≡ o)
    outcome-right o = (λ x. gives_one outcome-gives x, λ e. subst (Gives g start) e outcome-gives)
