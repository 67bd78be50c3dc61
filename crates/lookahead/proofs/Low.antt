-- Configurations that fit into words but for the length of their stacks: closing and steps keep to them, from whatever words they were read.
use mathlib.Core.Path.{◌≡◌, sym, refl, subst}
use mathlib.Core.Logic.{◌⊎◌, inl, inr}
use mathlib.Core.List.Memᴰ
use mathlib.Core.List.{List}
use Prim.Native.Nat.{ℕ, suc, ◌≤◌, ◌<◌}
use native.Mathlib.Omega.{arith}
use lib.ListN.{length}
use Rattle.base.proofs.Booleans.{clash}
use Rattle.grammar.specs.Limits.{max_productions, end_place}
use Rattle.grammar.specs.Grammar.{Grammar}
use Rattle.lookahead.specs.Configs.{Config, In, Moves, enter, pop, behind, end, Closes, from, move}
use Rattle.lookahead.specs.Closing.{max_entries}
use Rattle.lookahead.specs.Order.{past_end, alternative_radix, return_radix, Packable}
use Rattle.lookahead.specs.Outcomes.{onward, start_configs, step_configs}
use Rattle.lookahead.specs.Rules.{Each}
use Rattle.lookahead.proofs.CloseLaws.{Closure}
use Rattle.lookahead.proofs.StepLaws.{step-exact}
use Rattle.lookahead.proofs.Bounds.{Bounded}
use Rattle.lookahead.proofs.Standing.{At, inside, last, past, Standing, start-standing}

-- the place and the return places fit, and the alternative is one of a kind
pub record Low (Named : ℕ → Type 0) (k : Config) : Type 0 where
  pub place : k.place ≤ past_end
  pub named : Named k.alternative
  pub returns : Each (λ (r : ℕ). r < return_radix) k.stack

-- a source of steps: the return places fit, and the alternative is one of a kind
pub record Source (Named : ℕ → Type 0) (k : Config) : Type 0 where
  pub named : Named k.alternative
  pub returns : Each (λ (r : ℕ). r < return_radix) k.stack

module _ (g : Grammar) (bounded : Bounded g) (Named : ℕ → Type 0) where
  -- ---- closing
  moved : {c d : Config} → Low Named c → Moves g c d → Low Named d
  moved {c} l (enter {a = a} {f = f} b e q) =
      record { place = omega (arith, bounded.begins a b f q, bounded.small); named = l.named; returns = λ r m. pick r (Memᴰ.cases_cons m) }
    where
      pick : (r : ℕ) → (r ≡ suc c.place) ⊎ In r c.stack → r < return_radix
      pick r (inl z) = let h = bounded.goes_on c.place (bounded.calls c.place a e) (λ x. clash (cc)) in omega (arith, bounded.small)
      pick r (inr m) = l.returns r m
  moved {c} l (pop {r = r} {s = t} e q) =
      let h = l.returns r (subst (In r) (sym q) (Memᴰ.head refl)) in
      record { place = omega arith; named = l.named; returns = λ x m. l.returns x (subst (In x) (sym q) (Memᴰ.tail m)) }
  moved {c} l (behind {q = q} e z f) =
      let h = bounded.goes_on q (bounded.calls q _ f) (λ x. clash (cc)) in
      record { place = omega (arith, bounded.small); named = l.named; returns = λ x m. absurd (Memᴰ.not-nil m) }
  moved {c} l (end e z o) = record { place = omega arith; named = l.named; returns = λ x m. absurd (Memᴰ.not-nil m) }

  pub closes-low : {start : List Config} → Each (Low Named) start → {c : Config} → Closes g start c → Low Named c
  closes-low h (from {c = c} m) = h c m
  closes-low h (move r m) = moved (closes-low h r) m

  -- ---- starts and steps
  module _ (numbers : (b : ℕ) → 1 ≤ b → b ≤ max_productions → Named b) where
    pub standing-low : (c : Config) → Standing g c → Low Named c
    standing-low c s = record {
      place = go s.stands;
      named = numbers c.alternative s.least s.most;
      returns = λ r m. let h = s.returns r m in omega (arith, bounded.small);
    }
      where
        go : {p : ℕ} {t : List ℕ} → At g p t → p ≤ past_end
        go (inside h) = omega (arith, bounded.small)
        go (last h _) = omega arith
        go (past h _) = omega arith

    pub start-low : (a : ℕ) → Each (Low Named) (start_configs g a)
    start-low a c m = standing-low c (start-standing g bounded a c m)

  onward-low : (c : Config) → Source Named c → (c.place < g.size) ⊎ (c.place ≡ end_place) → Low Named (onward c)
  onward-low c f h = record { place = go h; named = f.named; returns = f.returns }
    where
      go : (c.place < g.size) ⊎ (c.place ≡ end_place) → suc c.place ≤ past_end
      go (inl l) = omega (arith, bounded.small)
      go (inr q) = omega arith

  pub step-low : (t : ℕ) (ks : List Config) → Each (Source Named) ks → Each (Low Named) (step_configs g t ks)
  step-low t ks f c m =
      let u = (step-exact g t ks c).0 m in
      subst (Low Named) (sym u.is) (onward-low u.source (f u.source u.held) (bounded.tokens u.source.place u.kind u.faces))

-- ---- packed values
-- an alternative that packed values can say
abbrev pub Digit : ℕ → Type 0
Digit b = b < alternative_radix

pub low-packable : (c : Config) → Low Digit c → length c.stack ≤ max_entries → Packable c
low-packable c s l = record { place = omega (arith, s.place); alternative = s.named; entries = omega arith; returns = s.returns }

pub members-packable : (g : Grammar) → Bounded g → (start ms : List Config) → Each (Low Digit) start → Closure g start ms → Each Packable ms
members-packable g bounded start ms s h c m = low-packable c (closes-low g bounded Digit s ((h.exact c).0 m)) (h.small c m)

pub packable-returns : (c : Config) → Packable c → Source Digit c
packable-returns c p = record { named = p.alternative; returns = p.returns }
