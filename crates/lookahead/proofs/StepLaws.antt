-- The computed starts and steps take what the rules say.
use mathlib.Core.Path.{◌≡◌, refl}
use mathlib.Core.Logic.{◌↔◌, ◌⊎◌, inl, inr}
use mathlib.Core.Option.{some}
use mathlib.Core.List.Memᴰ
use mathlib.Core.List.{List, [], ◌∷◌}
use Prim.Native.Nat.{ℕ, zero, suc, ◌+◌}
use native.Mathlib.Omega.{arith}
use lib.Dec.{T}
use lib.ListN.{get_elem?}
use Rattle.base.proofs.Booleans.{clash}
use Rattle.grammar.specs.declared.Symbol.{Symbol}
use Rattle.grammar.specs.declared.Symbol.TheVariants.{Token, Nonterminal, End}
use Rattle.grammar.specs.Grammar.{Grammar, facing, admits, alternatives, first}
use Rattle.lookahead.specs.Configs.{Config, config, In}
use Rattle.lookahead.specs.Order.{keep}
use Rattle.lookahead.specs.Outcomes.{numbered, start_configs, passes_at, onward, step_configs}
use Rattle.lookahead.specs.Rules.{Starts, StepsOver}
use Rattle.lookahead.proofs.ListLaws.{map-in, in_map}
use Rattle.lookahead.proofs.OrderLaws.{keep-in, keep_out}

-- ---- starts
numbered-out : (b : ℕ) (l : List ℕ) (c : Config) → In c (numbered b l) → (i : ℕ) × (f : ℕ) × (get_elem? l i ≡ some f)
    × (c ≡ config f (b + i) [])
unfolding numbered
numbered-out b [] c m = absurd (Memᴰ.not-nil m)
numbered-out b (x ∷ l) c m = go (Memᴰ.cases_cons m) (numbered-out (suc b) l c)
  where
    go : (c ≡ config x b []) ⊎ In c (numbered (suc b) l)
        → (In c (numbered (suc b) l) → (i : ℕ) × (f : ℕ) × (get_elem? l i ≡ some f) × (c ≡ config f (suc b + i) []))
        → (i : ℕ) × (f : ℕ) × (get_elem? (x ∷ l) i ≡ some f) × (c ≡ config f (b + i) [])
    go (inl e) rec = let z : b + 0 ≡ b = omega arith in (0, x, refl, rw z e)
    go (inr n) rec = let h = rec n in let z : b + suc h.0 ≡ suc b + h.0 = omega arith in (suc h.0, h.1, h.2, rw z h.3)

numbered-in : (b : ℕ) (l : List ℕ) (i f : ℕ) → get_elem? l i ≡ some f → In (config f (b + i) []) (numbered b l)
unfolding numbered
numbered-in b [] i f e = clash (cc)
numbered-in b (x ∷ l) zero f e = let z : b + 0 ≡ b = omega arith in let q : f ≡ x = cc in rw (z, q) (Memᴰ.head refl)
numbered-in b (x ∷ l) (suc i) f e = let z : b + suc i ≡ suc b + i = omega arith in rw z (Memᴰ.tail (numbered-in (suc b) l i f e))

module _ (g : Grammar) where
  pub start-exact : (a : ℕ) (c : Config) → In c (start_configs g a) ↔ Starts g a c
  unfolding start_configs
  start-exact a c = (out, λ h. back h.number h.begins h.production h.is)
    where
      out : In c (numbered 1 (alternatives g a)) → Starts g a c
      out m =
          let h = numbered-out 1 (alternatives g a) c m in
          let z : 1 + h.0 ≡ suc h.0 = omega arith in
          record { number = suc h.0; begins = h.1; production = h.2; is = rw z at h.3 }

      back : (b f : ℕ) → first g a b ≡ some f → c ≡ config f b [] → In c (numbered 1 (alternatives g a))
      back zero f e q = clash (cc)
      back (suc i) f e q = let z : suc i ≡ 1 + i = omega arith in Memᴰ.cast q (rw z (numbered-in 1 (alternatives g a) i f e))

  -- ---- steps
  -- what passes faces a kind that admits it
  passes-out : (t : ℕ) (s : Symbol) → T (passes_at g t s) → (k : ℕ) × (s ≡ Token k) × T (admits g k t)
  unfolding passes_at
  passes-out t (Token k) h = (k, refl, h)
  passes-out t (Nonterminal a) h = absurd h
  passes-out t End h = absurd h

  passes-in : (t k : ℕ) {s : Symbol} → s ≡ Token k → T (admits g k t) → T (passes_at g t s)
  unfolding passes_at
  passes-in t k e h = rw e h

  pub step-exact : (t : ℕ) (ks : List Config) (c : Config) → In c (step_configs g t ks) ↔ StepsOver g t ks c
  unfolding step_configs
  step-exact t ks c = (out, back)
    where
      out : In c (step_configs g t ks) → StepsOver g t ks c
      out m =
          let u = in_map onward (keep (λ (d : Config). passes_at g t (facing g d.place)) ks) m in
          let v = keep_out (λ (d : Config). passes_at g t (facing g d.place)) ks u.1 in
          let w = passes-out t (facing g u.0.place) v.1 in
          record { source = u.0; held = v.0; kind = w.0; faces = w.1; passes = w.2; is = u.2 }

      back : StepsOver g t ks c → In c (step_configs g t ks)
      back x =
          Memᴰ.cast x.is
          (map-in onward (keep-in (λ (d : Config). passes_at g t (facing g d.place)) ks x.held (passes-in t x.kind x.faces x.passes)))
