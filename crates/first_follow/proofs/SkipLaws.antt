-- Over nonterminals that derive the empty row, place by place: what is skipped last, what a place stands in front of, and what stands right before it.
use mathlib.Core.Path.{◌≡◌, refl, ◌∙◌}
use mathlib.Core.Logic.{◌⊎◌, inl, inr}
use Prim.Native.Nat.{ℕ, suc, ◌≤◌}
use native.Mathlib.Omega.{arith}
use lib.Dec.{T}
use Rattle.grammar.specs.declared.Symbol.TheVariants.{Nonterminal}
use Rattle.grammar.specs.Grammar.{Grammar, facing, owner}
use Rattle.grammar.specs.inside.Ordered.{Ordered}
use Rattle.closures.specs.Closures.{nullable?}
use Rattle.first_follow.specs.FirstFollow.{Skips, here, over}
use Rattle.first_follow.specs.inside.Steps.{Leading, Open}

-- what place p faces vanishes: a nonterminal that derives the empty row
pub record Vanishing (g : Grammar) (p : ℕ) : Type 0 where
  pub which : ℕ
  pub calls : facing g p ≡ Nonterminal which
  pub empty : T (nullable? g which)

-- to come behind p is to begin there, or to come to p and skip what it faces
pub data Last (g : Grammar) (f p : ℕ) : Type 0 where
  begins : f ≡ suc p → Last g f p
  skips : Vanishing g p → Skips g f p → Last g f p

module _ {g : Grammar} where
  pub skips-last : {f q : ℕ} → Skips g f q → (p : ℕ) → q ≡ suc p → Last g f p
  skips-last here p e = begins e
  skips-last (over {p = f} {c = c} d n s) p e = go (skips-last s p e)
    where
      go : Last g (suc f) p → Last g f p
      go (begins z) = let y : f ≡ p = omega arith in skips (record { which = c; calls = rw y at d; empty = n }) (rw y (here {p = p}))
      go (skips v x) = skips v (over d n x)

  pub skips-le : {f p : ℕ} → Skips g f p → f ≤ p
  skips-le here = omega arith
  skips-le (over d n s) = let h = skips-le s in omega arith

  pub skips-on : {f p : ℕ} → Skips g f p → Vanishing g p → Skips g f (suc p)
  skips-on here v = over v.calls v.empty here
  skips-on (over d n s) v = over d n (skips-on s v)

  -- ---- in front
  pub leading-on : {p : ℕ} → Leading g p → Vanishing g p → Leading g (suc p)
  leading-on x v = record { who = x.who; alternative = x.alternative; start = x.start; begins = x.begins; skips = skips-on x.skips v }

  -- ---- right before
  pub open-here : (p a : ℕ) → facing g p ≡ Nonterminal a → Open g (suc p) a
  open-here p a e = record { place = p; calls = e; skips = here }

  pub open-on : {p a : ℕ} → Open g p a → Vanishing g p → Open g (suc p) a
  open-on x v = record { place = x.place; calls = x.calls; skips = skips-on x.skips v }

  pub open-last : (p a : ℕ) → Open g (suc p) a → (facing g p ≡ Nonterminal a) ⊎ (Vanishing g p × Open g p a)
  open-last p a x = go (skips-last x.skips p refl)
    where
      go : Last g (suc x.place) p → (facing g p ≡ Nonterminal a) ⊎ (Vanishing g p × Open g p a)
      go (begins z) = let y : x.place ≡ p = omega arith in inl (rw y at x.calls)
      go (skips v s) = inr (v, record { place = x.place; calls = x.calls; skips = s })

  -- ---- within one production
  module _ (order : Ordered g) where
    pub skips-owner : {p q : ℕ} → Skips g p q → owner g q ≡ owner g p
    skips-owner here = refl
    skips-owner (over {p = p} {c = c} d n s) = skips-owner s ∙ order.call-on p c d

    pub leading-owner : {p : ℕ} (x : Leading g p) → owner g p ≡ x.who
    leading-owner x = skips-owner x.skips ∙ order.owns x.who x.alternative x.start x.begins
