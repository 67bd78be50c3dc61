-- What an outcome may say where an alternative can read the rest: FULL, that alternative, or a state in which it is followed.
use mathlib.Core.Path.{◌≡◌, refl, sym, ap, subst, ◌∙◌}
use mathlib.Core.Bool.{Bool, true, false, ◌&&◌, not, cond}
use mathlib.Core.Option.{Option, none, some}
use mathlib.Core.List.Memᴰ
use mathlib.Core.List.{List, [], ◌∷◌}
use Prim.Native.Nat.{ℕ, suc, ◌<◌}
use lib.Dec.{T, ltb}
use lib.ListN.{length, get_elem?}
use native.Mathlib.Omega.{arith}
use borrow.Author.Tests.{ltb-true, ltb-false}
use Rattle.base.proofs.Booleans.{clash, true→T}
use Rattle.base.proofs.Lists.{get-below}
use Rattle.grammar.specs.Limits.{end_place, end_mark}
use Rattle.grammar.specs.Grammar.{Grammar, admits, first}
use Rattle.grammar.specs.inside.Ordered.{Ordered}
use Rattle.derivation.specs.Runs.{Run}
use Rattle.lookahead.specs.Configs.{Config, config, In, Closes, from}
use Rattle.lookahead.specs.Closing.{max_kept, close}
use Rattle.lookahead.specs.Order.{kept?, kept}
use Rattle.lookahead.specs.Outcomes.{Outcome, full, alternative, state, agreed, shared, settled, resolved, judged, within_kept, outcome}
use Rattle.lookahead.specs.Outcomes.{onward, start_configs, step_configs, start_outcome, step_outcome}
use Rattle.lookahead.proofs.Bounds.{Bounded}
use Rattle.lookahead.proofs.CloseLaws.{close-some}
use Rattle.lookahead.proofs.OrderLaws.{kept-right}
use Rattle.lookahead.specs.Rules.{ToKeep}
use Rattle.lookahead.proofs.TestLaws.{waits-right, agreed-first}
use Rattle.lookahead.proofs.StepLaws.{start-exact, step-exact}
use Rattle.lookahead.proofs.StateLaws.{state-exact}
use Rattle.lookahead.proofs.Following.{Valid, Cover, Faced, face}

-- rule 3 alone gives an alternative, and all kept have it
judged-alternative : (ks : List Config) {b : ℕ} → judged ks ≡ alternative b → (c : Config) → In c ks → c.alternative ≡ b
unfolding judged resolved
judged-alternative [] e c m = absurd (Memᴰ.not-nil m)
judged-alternative (k ∷ ks) {b} e c m = go (agreed k.alternative ks) refl e
  where
    settle : (x : Bool) → ¬ (cond x full (state (k ∷ ks)) ≡ alternative b)
    settle true q = clash (cc)
    settle false q = clash (cc)

    unresolved : ¬ (resolved (k ∷ ks) ≡ alternative b)
    unresolved q = settle (shared (k ∷ ks) && not (settled (k ∷ ks))) q

    go : (x : Bool) → agreed k.alternative ks ≡ x → cond x (alternative k.alternative) (resolved (k ∷ ks)) ≡ alternative b → c.alternative
        ≡ b
    go true t q = let z : k.alternative ≡ b = cc in agreed-first k ks (true→T (agreed k.alternative ks) t) c m ∙ z
    go false t q = absurd (unresolved q)

limited-alternative : (ks : List Config) {b : ℕ} → within_kept ks ≡ alternative b → judged ks ≡ alternative b
unfolding within_kept
limited-alternative ks {b} e = go (ltb max_kept (length ks)) e
  where
    go : (x : Bool) → cond x full (judged ks) ≡ alternative b → judged ks ≡ alternative b
    go true q = clash (cc)
    go false q = q

module _ (g : Grammar) where
  pub outcome-alternative : (start : List Config) {b : ℕ} → outcome g start ≡ alternative b → (c : Config) → Closes g start c → T (kept? g c)
      → c.alternative ≡ b
  unfolding outcome
  outcome-alternative start {b} e c x t = go (close g start) refl e
    where
      go : (o : Option (List Config)) → close g start ≡ o → (elim o as (λ _. Outcome) [ none ↦ full | some ms ↦ within_kept (kept g ms) ])
          ≡ alternative b → c.alternative ≡ b
      go none q e = clash (cc)
      go (some ms) q e = judged-alternative (kept g ms) (limited-alternative (kept g ms) e) c
          ((kept-right g ms c).1 (((close-some g start ms q).exact c).1 x, t))

-- what an outcome allows where alternative b can read the rest of w from i on
module _ (g : Grammar) (ordered : Ordered g) where
  -- in a state: a configuration of b faces the token at i, and with what is open behind it the rest can be read
  pub record Followed (ks : List Config) (b : ℕ) (w : List ℕ) (i : ℕ) : Type 0 where
    pub start : List Config
    pub faced : Faced g ordered start b w i
    pub held : In faced.member ks

  pub data Allows (b : ℕ) (w : List ℕ) (i : ℕ) : Outcome → Type 0 where
    any : Allows b w i full
    this : Allows b w i (alternative b)
    there : {ks : List Config} → Followed ks b w i → Allows b w i (state ks)
    over : {ks : List Config} → i ≡ length w → Allows b w i (state ks)

  -- AN OUTCOME AGREES with every derivation that has a token left
  pub outcome-allows : (start : List Config) {b : ℕ} {w z r : List ℕ} {i : ℕ} → Run g w z i (length w) r → i < length w → Valid g z
      → Cover g ordered start b z → Allows b w i (outcome g start)
  outcome-allows start {b} {w} {i = i} x l va v = go (outcome g start) refl (face g ordered x refl l va v)
    where
      waits : (f : Faced g ordered start b w i) → T (kept? g f.member)
      waits f = (waits-right g f.member).1 (ToKeep.faces f.kind f.faces)

      go : (o : Outcome) → outcome g start ≡ o → Faced g ordered start b w i → Allows b w i o
      go full e f = any
      go (alternative b') e f = let q : b' ≡ b = sym (outcome-alternative g start e f.member f.closes (waits f)) ∙ f.same in rw q this
      go (state ks) e f = there (record { start = start; faced = f; held = (state-exact g start ks e f.member).1 (f.closes, waits f) })

  -- a start agrees
  pub start-allows : (a b f : ℕ) (S : List ℕ) {w r : List ℕ} {i : ℕ} → first g a b ≡ some f → Run g w (f ∷ S) i (length w) r → i < length w
      → Valid g (f ∷ S) → Allows b w i (start_outcome g a)
  unfolding start_outcome
  start-allows a b f S q x l va =
      outcome-allows (start_configs g a) x l va
      (record {
        member = config f b [];
        closes = from ((start-exact g a (config f b [])).1 (record { number = b; begins = f; production = q; is = refl }));
        same = refl;
        rest = S;
        covers = refl;
      })

  -- and a step from a state in which the alternative is followed, if a token is left behind it
  pub step-allows : {ks : List Config} {b : ℕ} {w : List ℕ} {i : ℕ} (h : Followed ks b w i) → suc i < length w
      → Allows b w (suc i) (step_outcome g h.faced.token ks)
  unfolding step_outcome
  step-allows {ks} h l =
      let f = h.faced in
      outcome-allows (step_configs g f.token ks) f.onward l f.valid
      (record {
        member = onward f.member;
        closes = from ((step-exact g f.token ks (onward f.member)).1
            (record { source = f.member; held = h.held; kind = f.kind; faces = f.faces; passes = f.passes; is = refl }));
        same = f.same;
        rest = f.rest;
        covers = refl;
      })

  -- the last token is the end mark
  abbrev pub Marked : List ℕ → Type 0
  Marked w = (i t : ℕ) → get_elem? w i ≡ some t → suc i ≡ length w → t ≡ end_mark

  module _ (bounded : Bounded g) where
    -- over the end mark: all that passes it stands past the end, and is kept
    step-last : {ks : List Config} {b : ℕ} {w : List ℕ} {i : ℕ} (h : Followed ks b w i) → suc i ≡ length w → h.faced.token ≡ end_mark
        → Allows b w (suc i) (step_outcome g h.faced.token ks)
    unfolding step_outcome
    step-last {ks} {b} {w} {i} h l e = go (outcome g (step_configs g f.token ks)) refl
      where
        f : Faced g ordered h.start b w i
        f = h.faced

        place : f.member.place ≡ end_place
        place = bounded.end-only f.member.place f.kind f.faces (subst (λ (t : ℕ). T (admits g f.kind t)) e f.passes)

        closes : Closes g (step_configs g f.token ks) (onward f.member)
        closes = from ((step-exact g f.token ks (onward f.member)).1
            (record { source = f.member; held = h.held; kind = f.kind; faces = f.faces; passes = f.passes; is = refl }))

        go : (o : Outcome) → outcome g (step_configs g f.token ks) ≡ o → Allows b w (suc i) o
        go full q = any
        go (alternative b') q =
            let z : b' ≡ b = sym (outcome-alternative g (step_configs g f.token ks) q (onward f.member) closes
            ((waits-right g (onward f.member)).1 (ToKeep.past (ap suc place)))) ∙ f.same in
            rw z this
        go (state ls) q = over l

    -- and so a step agrees from every state in which the alternative is followed
    pub step-agrees : {ks : List Config} {b : ℕ} {w : List ℕ} {i : ℕ} → Marked w → (h : Followed ks b w i)
        → Allows b w (suc i) (step_outcome g h.faced.token ks)
    step-agrees {ks} {b} {w} {i} m h = go (ltb (suc i) (length w)) refl
      where
        go : (x : Bool) → ltb (suc i) (length w) ≡ x → Allows b w (suc i) (step_outcome g h.faced.token ks)
        go true e = step-allows h (ltb-true (suc i) (length w) e)
        go false e =
            let l = get-below w i h.faced.stands in
            let z : suc i ≡ length w = omega (arith, ltb-false (suc i) (length w) e) in
            step-last h z (m i h.faced.token h.faced.stands z)
