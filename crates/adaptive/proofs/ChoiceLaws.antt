-- What a chooser chooses that is guided by a predictor: where some alternative serves it is the lowest that does; its states only grow; and a choice that
-- was made before is made again. The predictor's three laws alone are used.
use mathlib.Core.Path.{◌≡◌, refl, sym, subst, ap, ◌∙◌}
use mathlib.Core.Logic.{inl, inr}
use mathlib.Core.Bool.{Bool, true, false}
use mathlib.Core.Option.{Option, some}
use mathlib.Core.List.{List, ◌∷◌}
use Prim.Native.Nat.{ℕ, zero, suc, ◌≤◌}
use native.Mathlib.Omega.{arith}
use lib.Dec.{ltb}
use lib.ListN.{length, drop}
use borrow.Author.Tests.{ltb-true, ltb-false}
use Rattle.base.specs.Search.{LowestIs, this, nothing}
use Rattle.base.proofs.Booleans.{clash}
use Rattle.grammar.specs.Grammar.{Grammar, alternatives, first}
use Rattle.derivation.specs.Runs.{Opens}
use Rattle.derivation.specs.Machine.{Choice, choice, lowest, plainly}
use Rattle.derivation.specs.Runs.{Serves}
use Rattle.derivation.specs.inside.Choosers.{names, thence, Served, AnyState, KeepsKind, Repeats, Alike}
use Rattle.derivation.proofs.LowestLaws.{lowest-serves, first-lt}
use Rattle.std.specs.Prelude.{Some, None}
use Rattle.cache.specs.Predictor.{Forecast, Predicted, predicted, Predicts, FullOr, Predictor}
use Rattle.adaptive.specs.Chooser.{settle, guided}

-- ---- single choices
module _ {C : Type 0} (g : Grammar) (w : List ℕ) where
  settle-state : (S : List ℕ) (a i : ℕ) (p : Predicted C) → (settle g w S a i p).state ≡ p.state
  unfolding settle
  settle-state S a i p = go p.forecast
    where
      go : (x : Forecast) → (settle g w S a i (predicted x p.state)).state ≡ p.state
      go (Some b) = refl
      go None = refl

  settle-again : (S : List ℕ) (a i : ℕ) (p : Predicted C) (d : C) → settle g w S a i (predicted p.forecast d)
      ≡ choice (settle g w S a i p).alternative d
  unfolding settle
  settle-again S a i p d = go p.forecast
    where
      go : (x : Forecast) → settle g w S a i (predicted x d) ≡ choice (settle g w S a i (predicted x p.state)).alternative d
      go (Some b) = refl
      go None = refl

  module _ (predict : Predicts C) (c : C) (S : List ℕ) (a i : ℕ) where
    -- a decision is predicted
    pub choice-decided : ltb 1 (length (alternatives g a)) ≡ true → guided g w predict c S a i ≡ settle g w S a i (predict c a (drop i w))
    unfolding guided
    choice-decided e = rw (guided, e)

    -- a single production is taken
    pub choice-single : ltb 1 (length (alternatives g a)) ≡ false → guided g w predict c S a i ≡ choice (some 1) c
    unfolding guided
    choice-single e = rw (guided, e)

-- ---- the lowest
module _ (g : Grammar) (w : List ℕ) where
  lowest-of : (S : List ℕ) (a i b : ℕ) → Served g w S a i → ((c : ℕ) → Serves g w S a i c → b ≡ c) → some b ≡ lowest g w S a i
  lowest-of S a i b (x, y) h = go (lowest g w S a i) (lowest-serves g w S a i)
    where
      go : (o : Option ℕ) → LowestIs (Serves g w S a i) o → some b ≡ o
      go o (this c z l) = ap some (h c z)
      go o (nothing n) = absurd (n x y)

  -- a nonterminal of a single production has alternative 1 alone
  first-single : (a b f : ℕ) → length (alternatives g a) ≤ 1 → first g a b ≡ some f → 1 ≡ b
  first-single a zero f l e = clash (cc)
  first-single a (suc b) f l e = omega (arith, first-lt g w a (suc b) f e)

  -- what agrees with every alternative that serves is settled as the lowest
  settle-lowest : {C : Type 0} (S : List ℕ) (a i : ℕ) (p : Predicted C) → Served g w S a i
      → ((b : ℕ) → Serves g w S a i b → FullOr b p.forecast)
      → (settle g w S a i p).alternative ≡ lowest g w S a i
  unfolding settle
  settle-lowest S a i p v h = go p.forecast h
    where
      said : {b d : ℕ} → FullOr d (Some b) → b ≡ d
      said (inl e) = clash (cc)
      said (inr e) = cc

      go : (x : Forecast) → ((b : ℕ) → Serves g w S a i b → FullOr b x) → (settle g w S a i (predicted x p.state)).alternative
          ≡ lowest g w S a i
      go (Some b) k = lowest-of S a i b v (λ d y. said (k d y))
      go None k = refl

-- ---- by a predictor's laws
module _ {C : Type 0} (Coherent : C → Type 0) (Extends : C → C → Type 0) (g : Grammar) (w : List ℕ) (Stands : List ℕ → ℕ → Type 0)
    (predict : Predicts C)
    (predictor : Predictor Coherent Extends g w Stands predict) where
  -- coherent states stay coherent
  pub guided-keeps : KeepsKind Coherent (guided g w predict)
  guided-keeps c S a i h = go (ltb 1 (length (alternatives g a))) refl
    where
      go : (x : Bool) → ltb 1 (length (alternatives g a)) ≡ x → Coherent (guided g w predict c S a i).state
      go true e = rw (choice-decided g w predict c S a i e, settle-state g w S a i (predict c a (drop i w)))
          (predictor.adds c a i h (ltb-true 1 (length (alternatives g a)) e)).coherent
      go false e = rw (choice-single g w predict c S a i e) h

  -- states only grow, and what was chosen before is chosen again
  pub guided-repeats : ((c : C) → Extends c c) → ((c d e : C) → Extends c d → Extends d e → Extends c e)
      → Repeats Coherent (guided g w predict) Extends
  guided-repeats same joined = record { keeps = guided-keeps; same = same; joined = joined; grows = grows; again = again }
    where
      grows : (c : C) (S : List ℕ) (a i : ℕ) → Coherent c → Extends c (thence (guided g w predict) c S a i)
      grows c S a i h = go (ltb 1 (length (alternatives g a))) refl
        where
          go : (x : Bool) → ltb 1 (length (alternatives g a)) ≡ x → Extends c (guided g w predict c S a i).state
          go true e = rw (choice-decided g w predict c S a i e, settle-state g w S a i (predict c a (drop i w)))
              (predictor.adds c a i h (ltb-true 1 (length (alternatives g a)) e)).extends
          go false e = rw (choice-single g w predict c S a i e) (same c)

      again : (c d : C) (S : List ℕ) (a i : ℕ) → Coherent c → Coherent d → Extends (thence (guided g w predict) c S a i) d
          → guided g w predict d S a i ≡ choice (names (guided g w predict) c S a i) d
      again c d S a i h j x = go (ltb 1 (length (alternatives g a))) refl
        where
          go : (y : Bool) → ltb 1 (length (alternatives g a)) ≡ y → guided g w predict d S a i ≡ choice (names (guided g w predict) c S a i) d
          go true e =
              let p = predict c a (drop i w) in
              let q : thence (guided g w predict) c S a i ≡ p.state = ap (λ (k : Choice C). k.state) (choice-decided g w predict c S a i e)
              ∙ settle-state g w S a i p in
              let said = predictor.again c d a i h (ltb-true 1 (length (alternatives g a)) e) j (subst (λ (v : C). Extends v d) q x) in
              choice-decided g w predict d S a i e ∙ ap (settle g w S a i) said ∙ settle-again g w S a i p d
              ∙ ap (λ (k : Choice C). choice k.alternative d) (sym (choice-decided g w predict c S a i e))
          go false e =
              choice-single g w predict d S a i e ∙ ap (λ (k : Choice C). choice k.alternative d) (sym (choice-single g w predict c S a i e))

  -- where some alternative serves, the lowest that does is chosen, as the plain chooser does
  pub guided-lowest : (Waits : List ℕ → ℕ → ℕ → Type 0)
      → ((S : List ℕ) (a i b f : ℕ) → Waits S a i → first g a b ≡ some f → Opens g w (f ∷ S) i → Stands (f ∷ S) i)
      → Alike Coherent AnyState (guided g w predict) (plainly g w) g w Waits
  guided-lowest Waits stands c d S a i h _ y v = go (ltb 1 (length (alternatives g a))) refl
    where
      go : (x : Bool) → ltb 1 (length (alternatives g a)) ≡ x → (guided g w predict c S a i).alternative ≡ lowest g w S a i
      go true e = rw (choice-decided g w predict c S a i e)
          (settle-lowest g w S a i (predict c a (drop i w)) v
          (λ b s. predictor.agrees c a b s.0 i S h (ltb-true 1 (length (alternatives g a)) e) s.1 (stands S a i b s.0 y s.1 s.2) s.2))
      go false e = rw (choice-single g w predict c S a i e)
          (lowest-of g w S a i 1 v (λ b s. first-single g w a b s.0 (ltb-false 1 (length (alternatives g a)) e) s.1))
