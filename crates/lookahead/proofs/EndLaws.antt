-- A step over the end mark never gives a state: past the end mark all configurations stand at one place with an empty stack.
use mathlib.Core.Path.{◌≡◌, refl, sym, subst, ap, ◌∙◌}
use mathlib.Core.Bool.{Bool, true, false, ◌&&◌, not, cond}
use mathlib.Core.List.Memᴰ
use mathlib.Core.List.{List, [], ◌∷◌}
use Prim.Native.Nat.{ℕ, suc}
use native.Mathlib.Omega.{arith}
use lib.Dec.{T, not_T, eqb}
use borrow.Author.Tests.{eqb-true, eqb-false}
use Rattle.base.proofs.Booleans.{clash, T→true, T_and, false→¬T}
use Rattle.grammar.specs.Limits.{end_place, end_mark}
use Rattle.grammar.specs.Grammar.{Grammar, owner}
use Rattle.lookahead.specs.Configs.{Config, In, Moves, enter, pop, behind, end, Closes, from, move}
use Rattle.lookahead.specs.Order.{past_end}
use Rattle.lookahead.specs.Outcomes.{full, alternative, state, rivals, conflicts, agreed, shared, settled, resolved, judged, outcome, step_configs}
use Rattle.lookahead.specs.Outcomes.{step_outcome}
use Rattle.lookahead.specs.Rules.{Each}
use Rattle.lookahead.proofs.Bounds.{Bounded}
use Rattle.lookahead.proofs.Standing.{At, inside, last, past, Standing}
use Rattle.lookahead.proofs.StepLaws.{step-exact}
use Rattle.lookahead.proofs.StateLaws.{outcome-state, state-exact}
use Rattle.lookahead.proofs.TestLaws.{rivals-right, conflicts-right, agreed-not, shared-in, settled-in}

-- past the end mark
abbrev Past : Config → Type 0
Past c = (c.place ≡ past_end) × (c.stack ≡ [])

-- ---- two alternatives there conflict, and no place belongs to only one
rival : (c d : Config) → Past c → Past d → ¬ (c.alternative ≡ d.alternative) → T (rivals c d)
rival c d (p, s) (q, t) n = (rivals-right c d).1 (p ∙ sym q, n)

conflict : (c d : Config) → Past c → Past d → ¬ (c.alternative ≡ d.alternative) → T (conflicts c d)
conflict c d (p, s) (q, t) n = (conflicts-right c d).1 (rival c d (p, s) (q, t) n, s ∙ sym t)

-- so rule 4 applies where rule 3 does not
module _ (ks : List Config) (gone : Each Past ks) (k d : Config) (k-in : In k ks) (d-in : In d ks) (apart : ¬ (d.alternative ≡ k.alternative)) where
  -- each has a rival: k, or d
  has-rival : (c : Config) → In c ks → (e : Config) × In e ks × T (rivals c e)
  has-rival c m = go (eqb c.alternative k.alternative) refl
    where
      go : (b : Bool) → eqb c.alternative k.alternative ≡ b → (e : Config) × In e ks × T (rivals c e)
      go true e = (d, d-in, rival c d (gone c m) (gone d d-in) (λ q. apart (sym q ∙ eqb-true c.alternative k.alternative e)))
      go false e = (k, k-in, rival c k (gone c m) (gone k k-in) (eqb-false c.alternative k.alternative e))

  conflict-full : resolved ks ≡ full
  unfolding resolved
  conflict-full =
      rw (T→true (shared ks && not (settled ks))
      (T_and (shared ks) (not (settled ks)) (shared-in ks d k d-in k-in (conflict d k (gone d d-in) (gone k k-in) apart))
      (not_T (settled ks) (settled-in ks has-rival))))

judged-past : (ks ls : List Config) → Each Past ks → ¬ (judged ks ≡ state ls)
unfolding judged
judged-past [] ls h e = clash (cc)
judged-past (k ∷ ks) ls h e = go (agreed k.alternative ks) refl e
  where
    go : (b : Bool) → agreed k.alternative ks ≡ b → ¬ (cond b (alternative k.alternative) (resolved (k ∷ ks)) ≡ state ls)
    go true q e = clash (cc)
    go false q e =
        let (d, m, n) = agreed-not k.alternative ks (false→¬T (agreed k.alternative ks) q) in
        let y = conflict-full (k ∷ ks) h k d (Memᴰ.head refl) (Memᴰ.tail m) n in
        clash (cc)

-- ---- the step
module _ (g : Grammar) (bounded : Bounded g) where
  -- nothing moves from there
  still : {c d : Config} → Past c → ¬ Moves g c d
  still {c} (p, s) (enter {a = a} b e f) = let h = bounded.calls c.place a e in absurd (omega (arith, bounded.small))
  still {c} (p, s) (pop e q) = clash (cc)
  still {c} (p, s) (behind {q = q} e z f) =
      let o = bounded.unowned c.place (omega (arith, bounded.small)) in
      let h = bounded.named q (owner g c.place) f in
      absurd (omega arith)
  still {c} (p, s) (end e z o) = let h = bounded.unowned c.place (omega (arith, bounded.small)) in absurd (omega arith)

  closes-past : {start : List Config} → Each Past start → {c : Config} → Closes g start c → Past c
  closes-past h (from {c = c} m) = h c m
  closes-past h (move r m) = absurd (still (closes-past h r) m)

  -- a step over the end mark leads there
  step_past : (ks : List Config) → Each (Standing g) ks → Each Past (step_configs g end_mark ks)
  step_past ks h c m =
      let u = (step-exact g end_mark ks c).0 m in
      let q = bounded.end-only u.source.place u.kind u.faces u.passes in
      subst Past (sym u.is) (ap suc q, go q (h u.source u.held).stands)
    where
      go : {p : ℕ} {s : List ℕ} → p ≡ end_place → At g p s → s ≡ []
      go q (inside l) = absurd (omega (arith, bounded.small))
      go q (last e z) = z
      go q (past e z) = z

  outcome-past : (start ls : List Config) → Each Past start → ¬ (outcome g start ≡ state ls)
  outcome-past start ls h e =
      let x = (outcome-state g start ls e).rules in
      judged-past ls ls (λ c m. closes-past h ((state-exact g start ls e c).0 m).0) x

  -- a step over the end mark never gives a state
  pub mark-no-state : (ks ls : List Config) → Each (Standing g) ks → ¬ (step_outcome g end_mark ks ≡ state ls)
  unfolding step_outcome
  mark-no-state ks ls h e =
      outcome-past (step_configs g end_mark ks) ls (step_past ks h) e
