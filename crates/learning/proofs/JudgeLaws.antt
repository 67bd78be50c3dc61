-- The code's ways through the rules: comparisons of words, searches in the arrays.
use mathlib.Core.Path.{◌≡◌, refl, sym, ap, ◌∙◌}
use mathlib.Core.Logic.{◌⊎◌, inl, inr}
use mathlib.Core.Bool.{Bool, true, false, ◌||◌, cond}
use mathlib.Core.List.Memᴰ
use mathlib.Core.List.{List, [], ◌∷◌}
use Prim.Native.Nat.{ℕ, ◌+◌, ◌-◌, ◌≤◌, ◌<◌}
use native.Mathlib.Omega.{arith}
use lib.Dec.{T}
use Rattle.base.specs.Rounds.{any_of}
use Rattle.base.proofs.Booleans.{same, or-T, T-or-l, T-or-r}
use Rattle.learning.specs.declared.rules.Outcome.TheVariants.{Full, Alternative, State}
use Rattle.lookahead.specs.Configs.{Config, In}
use Rattle.configurations.specs.declared.config.Packed.{Packed}
use Rattle.configurations.specs.inside.Packed.{config_of, packed_at}
use Rattle.lookahead.specs.Outcomes.{alternative, state, conflicts, agreed, shared, settled, resolved, judged}
use Rattle.configurations.specs.inside.Held.{config_at, configs_from}
use Rattle.learning.specs.inside.Told.{Tells, Judges}
use Rattle.lookahead.proofs.TestLaws.{rivals-right, conflicts-right, shared-out, shared-in, any_out, any-in}
use Rattle.configurations.proofs.StandLaws.{Words, words-stand}
use Rattle.configurations.proofs.HeldLaws.{length-held, held_first, held_none, said_at, test_at, any-hit, any_next, any-end}

-- ---- each pair once
unfoldable pub pairs : List Config → Bool
unfolding any_of
pairs [] = false
pairs (c ∷ l) = let rest = pairs l in any_of (conflicts c) l || rest

conflicts-turned : (c d : Config) → T (conflicts c d) → T (conflicts d c)
conflicts-turned c d t =
    let h = (conflicts-right c d).0 t in
    let k = (rivals-right c d).0 h.0 in
    (conflicts-right d c).1 ((rivals-right d c).1 (sym k.0, λ q. k.1 (sym q)), sym h.1)

pairs-out : (ks : List Config) → T (pairs ks) → (c : Config) × (d : Config) × In c ks × In d ks × T (conflicts c d)
unfolding pairs
pairs-out [] t = absurd t
pairs-out (c ∷ l) t = go (or-T (any_of (conflicts c) l) (pairs l) t) (pairs-out l)
  where
    go : T (any_of (conflicts c) l) ⊎ T (pairs l) → (T (pairs l) → (a : Config) × (b : Config) × In a l × In b l × T (conflicts a b))
        → (a : Config) × (b : Config) × In a (c ∷ l) × In b (c ∷ l) × T (conflicts a b)
    go (inl s) rec = let h = any_out (conflicts c) l s in (c, h.0, Memᴰ.head refl, Memᴰ.tail h.1, h.2)
    go (inr s) rec = let h = rec s in (h.0, h.1, Memᴰ.tail h.2, Memᴰ.tail h.3, h.4)

pairs-in : (ks : List Config) (c d : Config) → In c ks → In d ks → T (conflicts c d) → T (pairs ks)
unfolding pairs
pairs-in [] c d m n t = absurd (Memᴰ.not-nil m)
pairs-in (k ∷ l) c d m n t = go (Memᴰ.cases_cons m) (Memᴰ.cases_cons n) (pairs-in l c d)
  where
    go : (c ≡ k) ⊎ In c l → (d ≡ k) ⊎ In d l → (In c l → In d l → T (conflicts c d) → T (pairs l)) → T (any_of (conflicts k) l || pairs l)
    go (inl p) (inl q) rec = absurd (((rivals-right c d).0 ((conflicts-right c d).0 t).0).1 (ap (λ (z : Config). z.alternative) (p ∙ sym q)))
    go (inl p) (inr b) rec = T-or-l (any_of (conflicts k) l) (pairs l) (any-in (conflicts k) l b (rw p at t))
    go (inr a) (inl q) rec = T-or-l (any_of (conflicts k) l) (pairs l) (any-in (conflicts k) l a (conflicts-turned c k (rw q at t)))
    go (inr a) (inr b) rec = T-or-r (any_of (conflicts k) l) (pairs l) (rec a b t)

pub shared-pairs : (ks : List Config) → pairs ks ≡ shared ks
shared-pairs ks = same (pairs ks) (shared ks) (λ t. let h = pairs-out ks t in shared-in ks h.0 h.1 h.2 h.3 h.4)
    (λ t. let h = shared-out ks t in pairs-in ks h.0 h.1 h.2 h.3 h.4)

-- ---- searches among the members
module _ (ws : List ℕ) where
  -- pairs from i on
  module _ (i n : ℕ) {v : Bool} (h : pairs (configs_from ws i (n - i)) ≡ v) where
    pub pairs_first : i < n → {c : Packed} → c ≡ packed_at ws i
        → (any_of (conflicts (config_of c)) (configs_from ws (i + 1) (n - (i + 1))) || pairs (configs_from ws (i + 1) (n - (i + 1)))) ≡ v
    unfolding pairs
    pairs_first l e =
        ap (λ (k : Config). any_of (conflicts k) (configs_from ws (i + 1) (n - (i + 1))) || pairs (configs_from ws (i + 1) (n - (i + 1)))) (said_at ws i e)
        ∙ ap pairs (sym (held_first ws i n l)) ∙ h

    pub pairs-none : n ≤ i → false ≡ v
    unfolding pairs
    pairs-none l = ap pairs (sym (held_none ws i n l)) ∙ h

  module _ (c : Config) (j n : ℕ) (w : Bool) {v : Bool} (h : (any_of (conflicts c) (configs_from ws j (n - j)) || w) ≡ v) where
    module _ (l : j < n) {d : Packed} {r : Bool} (is : d ≡ packed_at ws j) (e : r ≡ conflicts c (config_of d)) where
      pub pair-hit : r ≡ true → true ≡ v
      pair-hit z = let y : true ≡ any_of (conflicts c) (configs_from ws j (n - j)) = any-hit ws (conflicts c) j n refl l (test_at ws (conflicts c) j is e z) in
          ap (λ (b : Bool). b || w) y ∙ h

      pub pair-next : r ≡ false → (any_of (conflicts c) (configs_from ws (j + 1) (n - (j + 1))) || w) ≡ v
      pair-next z = let y : any_of (conflicts c) (configs_from ws (j + 1) (n - (j + 1))) ≡ any_of (conflicts c) (configs_from ws j (n - j)) =
          any_next ws (conflicts c) j n refl l (test_at ws (conflicts c) j is e z) in ap (λ (b : Bool). b || w) y ∙ h

    pub pair_end : n ≤ j → w ≡ v
    pair_end l = let y : false ≡ any_of (conflicts c) (configs_from ws j (n - j)) = any-end ws (conflicts c) j n refl l in ap (λ (b : Bool). b || w) y ∙ h

  -- ---- the rules in order, on those from f up to n
  module _ (f n : ℕ) where
    abbrev ks : List Config
    ks = configs_from ws f (n - f)

    -- their words are those of a state
    tells-state : Judges ws f n → Words ws → judged ks ≡ state ks → Tells (State f (n - f)) ws (judged ks)
    unfolding Tells
    tells-state j small e = record {
      configs = ks;
      is = e;
      count = length-held ws f (n - f);
      few = j.few;
      within = omega (arith, j.within, j.room.few, j.room.long);
      words = words-stand j.room small f (n - f) (omega (arith, j.within));
    }

    pub judge-none : n ≤ f → Tells Full ws (judged ks)
    unfolding Tells judged
    judge-none l = rw (held_none ws f n l)

    module _ (l : f < n) {c : Packed} {a : ℕ} (at : c ≡ packed_at ws f) (e : a ≡ (config_of c).alternative) {r : Bool}
        (d : r ≡ agreed a (configs_from ws (f + 1) (n - (f + 1)))) where
      is : (config_at ws f).alternative ≡ a
      is = ap (λ (k : Config). k.alternative) (sym (said_at ws f at)) ∙ sym e

      split : judged ks ≡ cond r (alternative a) (resolved ks)
      unfolding judged
      split =
          let s = held_first ws f n l in
          let z : judged (config_at ws f ∷ configs_from ws (f + 1) (n - (f + 1)))
          ≡ cond r (alternative a) (resolved (config_at ws f ∷ configs_from ws (f + 1) (n - (f + 1)))) = rw (is, ← d) in
          ap judged s ∙ z ∙ ap (λ (m : List Config). cond r (alternative a) (resolved m)) (sym s)

      pub judge-agreed : r ≡ true → Tells (Alternative a) ws (judged ks)
      unfolding Tells
      judge-agreed z = rw (split, z)

      module _ (o : r ≡ false) {s : Bool} (g : s ≡ shared ks) where
        pub judge-apart : s ≡ false → Judges ws f n → Words ws → Tells (State f (n - f)) ws (judged ks)
        unfolding resolved
        judge-apart z j small = tells-state j small (rw (split, o, ← g, z))

        pub judge-conflict : s ≡ true → {t : Bool} → t ≡ settled ks → t ≡ false → Tells Full ws (judged ks)
        unfolding Tells resolved
        judge-conflict z w y = rw (split, o, ← g, z, ← w, y)

        pub judge-settled : s ≡ true → {t : Bool} → t ≡ settled ks → t ≡ true → Judges ws f n → Words ws → Tells (State f (n - f)) ws (judged ks)
        unfolding resolved
        judge-settled z w y j small = tells-state j small (rw (split, o, ← g, z, ← w, y))
