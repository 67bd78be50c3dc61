-- What outcomes keep fits into words, if what they were worked out from fits.
use mathlib.Core.Path.{◌≡◌, refl, sym, subst}
use mathlib.Core.Bool.{Bool, true, false, ◌&&◌, not, cond}
use mathlib.Core.Option.{Option, none, some}
use mathlib.Core.List.Memᴰ
use mathlib.Core.List.{List, [], ◌∷◌}
use Prim.Native.Nat.{ℕ, ◌≤◌}
use native.Mathlib.Omega.{arith}
use lib.Dec.{ltb}
use lib.ListN.{length}
use Rattle.base.proofs.Booleans.{clash}
use Rattle.grammar.specs.Limits.{max_productions}
use Rattle.grammar.specs.Grammar.{Grammar}
use Rattle.lookahead.specs.Configs.{Config, In, Closes}
use Rattle.lookahead.specs.Closing.{max_entries, max_kept, close}
use Rattle.lookahead.specs.Order.{Packable, Ascending, kept}
use Rattle.lookahead.specs.Outcomes.{Outcome, full, alternative, state, agreed, shared, settled, resolved, judged, within_kept, outcome}
use Rattle.lookahead.specs.Outcomes.{start_configs, step_configs, start_outcome, step_outcome}
use Rattle.lookahead.specs.Rules.{Each}
use Rattle.lookahead.proofs.CloseLaws.{Closure, close-some}
use Rattle.lookahead.proofs.OrderLaws.{kept-right, kept-ascending}
use Rattle.lookahead.proofs.Bounds.{Bounded}
use Rattle.lookahead.proofs.Low.{Low, Source, closes-low, start-low, step-low}
use Rattle.lookahead.proofs.StateLaws.{outcome-state}
use Rattle.cache.specs.Coherent.{Storable}

-- a number of an alternative
abbrev Numbered : ℕ → Type 0
Numbered b = (1 ≤ b) × (b ≤ max_productions)

low_fits : (k : Config) → Low Numbered k → length k.stack ≤ max_entries → Storable k
low_fits k l d = record { place = l.place; least = l.named.0; most = l.named.1; entries = d; returns = l.returns }

fits-returns : (k : Config) → Storable k → Source Numbered k
fits-returns k f = record { named = (f.least, f.most); returns = f.returns }

pub fits-packable : (k : Config) → Storable k → Packable k
fits-packable k f = record { place = omega (arith, f.place); alternative = omega (arith, f.most); entries = omega (arith, f.entries); returns = f.returns }

-- what one word, or one slot, can record
pub record Keepable (ks : List Config) : Type 0 where
  pub fitting : Each Storable ks
  pub some : 1 ≤ length ks
  pub few : length ks ≤ max_kept
  pub ascending : Ascending ks

abbrev pub Recordable : Outcome → Type 0
Recordable full = Unit {0}
Recordable (alternative b) = (1 ≤ b) × (b ≤ max_productions)
Recordable (state ks) = Keepable ks

-- ---- an alternative is that of a kept configuration
resolved-never : (ks : List Config) {b : ℕ} → ¬ (resolved ks ≡ alternative b)
unfolding resolved
resolved-never ks {b} e = go (shared ks && not (settled ks)) e
  where
    go : (x : Bool) → ¬ (cond x full (state ks) ≡ alternative b)
    go true e = clash (cc)
    go false e = clash (cc)

judged-one : (ks : List Config) {b : ℕ} → judged ks ≡ alternative b → (c : Config) × In c ks × (c.alternative ≡ b)
unfolding judged
judged-one [] e = clash (cc)
judged-one (k ∷ ks) {b} e = go (agreed k.alternative ks) e
  where
    go : (x : Bool) → cond x (alternative k.alternative) (resolved (k ∷ ks)) ≡ alternative b → (c : Config) × In c (k ∷ ks)
        × (c.alternative ≡ b)
    go true e = (k, Memᴰ.head refl, cc)
    go false e = absurd (resolved-never (k ∷ ks) e)

limited-one : (ks : List Config) {b : ℕ} → within_kept ks ≡ alternative b → (c : Config) × In c ks × (c.alternative ≡ b)
unfolding within_kept
limited-one ks {b} e = go (ltb max_kept (length ks)) e
  where
    go : (x : Bool) → cond x full (judged ks) ≡ alternative b → (c : Config) × In c ks × (c.alternative ≡ b)
    go true e = clash (cc)
    go false e = judged-one ks e

-- ---- a state keeps something: with nothing kept the outcome is FULL
kept-some : (ks : List Config) → judged ks ≡ state ks → 1 ≤ length ks
unfolding judged
kept-some [] e = clash (cc)
kept-some (k ∷ ks) e = omega arith

module _ (g : Grammar) where
  outcome-one : (start : List Config) {b : ℕ} → outcome g start ≡ alternative b → (c : Config) × Closes g start c × (c.alternative ≡ b)
  unfolding outcome
  outcome-one start {b} e = go (close g start) refl e
    where
      go : (o : Option (List Config)) → close g start ≡ o → (elim o as (λ _. Outcome) [ none ↦ full | some ms ↦ within_kept (kept g ms) ])
          ≡ alternative b
          → (c : Config) × Closes g start c × (c.alternative ≡ b)
      go none q e = clash (cc)
      go (some ms) q e =
          let t = limited-one (kept g ms) e in
          (t.0, ((close-some g start ms q).exact t.0).0 ((kept-right g ms t.0).0 t.1).0, t.2)

  module _ (bounded : Bounded g) where
    members-fit : (start ms : List Config) → Each (Low Numbered) start → Closure g start ms → Each Storable ms
    members-fit start ms l h c m = low_fits c (closes-low g bounded Numbered l ((h.exact c).0 m)) (h.small c m)

    state-keepable : (start ks : List Config) → Each (Low Numbered) start → outcome g start ≡ state ks → Keepable ks
    state-keepable start ks l e =
        let h = outcome-state g start ks e in
        let f = members-fit start h.members l h.closure in
        record {
          fitting = λ c m. f c ((kept-right g h.members c).0 (subst (In c) (sym h.same) m)).0;
          some = kept-some ks h.rules;
          few = h.few;
          ascending = subst Ascending h.same (kept-ascending g h.members h.closure.distinct (λ c m. fits-packable c (f c m)));
        }

    outcome-recordable : (start : List Config) → Each (Low Numbered) start → Recordable (outcome g start)
    outcome-recordable start l = go (outcome g start) refl
      where
        go : (o : Outcome) → outcome g start ≡ o → Recordable o
        go full e = tt
        go (alternative b) e =
            let t = outcome-one start e in
            let q = t.2 in
            let h = (closes-low g bounded Numbered l t.1).named in
            (omega (arith, h.0), omega (arith, h.1))
        go (state ks) e = state-keepable start ks l e

    -- ---- starts and steps
    pub start-recordable : (a : ℕ) → Recordable (start_outcome g a)
    unfolding start_outcome
    start-recordable a = outcome-recordable (start_configs g a) (start-low g bounded Numbered (λ b h l. (h, l)) a)

    pub step-recordable : (t : ℕ) (ks : List Config) → Each Storable ks → Recordable (step_outcome g t ks)
    unfolding step_outcome
    step-recordable t ks f = outcome-recordable (step_configs g t ks) (step-low g bounded Numbered t ks (λ c m. fits-returns c (f c m)))
