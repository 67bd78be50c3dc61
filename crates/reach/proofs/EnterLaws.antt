-- The first places of a nonterminal's productions, as the loop over them meets them.
use mathlib.Core.Path.{◌≡◌, sym, ap, ◌∙◌}
use mathlib.Core.Logic.{◌⊎◌, inl, inr}
use mathlib.Core.Bool.{Bool, false, ◌||◌}
use mathlib.Core.Option.{some}
use mathlib.Core.List.{List}
use Prim.Native.Nat.{ℕ, zero, suc, ◌+◌, ◌≤◌, ◌<◌}
use native.Mathlib.Omega.{arith}
use native.Mathlib.Decide.{dec_lt}
use lib.ListN.{length, get_or, get_elem?}
use Rattle.base.proofs.Booleans.{clash}
use Rattle.base.proofs.Lists.{get-below}
use Rattle.grammar.specs.Grammar.{Grammar, alternatives, compile}
use Rattle.grammar.specs.inside.Tables.{grammar_in, nonterminals_in}
use Rattle.grammar.proofs.WordLaws.{length-starts-in}
use Rattle.grammar.proofs.PlaceLaws.{length-starts_all}
use Rattle.derivation.specs.inside.Ready.{Ready}
use Rattle.derivation.proofs.FirstLaws.{alternative-at, get-some}
use Rattle.reach.specs.inside.Sets.{Added, PointOf}
use Rattle.reach.specs.inside.Passes.{Opening}
use Rattle.reach.proofs.AddLaws.{added-as, none-added, both-added}

-- ---- the loop over the first places fs
-- those that stand before k
abbrev pub Opened : List ℕ → ℕ → ℕ → ℕ → ℕ → Type 0
Opened fs k i p j = (n : ℕ) × (n < k) × (n < length fs) × (p ≡ get_or fs n 0) × (j ≡ i)

pub enter-begin : (fs : List ℕ) (i : ℕ) (ws : List ℕ) → Added (Opened fs 0 i) false ws ws
enter-begin fs i ws = none-added ws (λ p j x. let l = x.1 in omega arith)

pub enter_on : (fs : List ℕ) (k i : ℕ) {r u : Bool} {f : ℕ} {ws₀ ws after : List ℕ} → f ≡ get_or fs k 0 → k < length fs
    → Added (Opened fs k i) r ws₀ ws → Added (PointOf f i) u ws after → Added (Opened fs (k + 1) i) (r || u) ws₀ after
enter_on fs k i {f = f} q m h x = added-as (λ p j _ y. more p j y) (λ p j _ y. fewer p j y) (both-added h x)
  where
    more : (p j : ℕ) → Opened fs k i p j ⊎ PointOf f i p j → Opened fs (k + 1) i p j
    more p j (inl (n, h₁, h₂, h₃, h₄)) = (n, omega arith, h₂, h₃, h₄)
    more p j (inr (z, y)) = (k, omega arith, m, z ∙ q, y)

    fewer : (p j : ℕ) → Opened fs (k + 1) i p j → Opened fs k i p j ⊎ PointOf f i p j
    fewer p j (n, h₁, h₂, h₃, h₄) = go (dec_lt n k)
      where
        go : Dec (n < k) → Opened fs k i p j ⊎ PointOf f i p j
        go (yes y) = inl (n, y, h₂, h₃, h₄)
        go (no y) = let z : n ≡ k = omega arith in inr (h₃ ∙ ap (λ (n : ℕ). get_or fs n 0) z ∙ sym q, h₄)

pub enter-end : (t : List ℕ) → Ready t → (a : ℕ) {fs : List ℕ} (k i : ℕ) {r : Bool} {ws after : List ℕ} → fs ≡ alternatives (grammar_in t) a
    → length fs ≤ k → Added (Opened fs k i) r ws after → Added (Opening (grammar_in t) a i) r ws after
enter-end t ready a {fs} k i e m h = added-as (λ p j _ x. to p j x) (λ p j _ x. from p j x) h
  where
    to : (p j : ℕ) → Opened fs k i p j → Opening (grammar_in t) a i p j
    to p j (n, h₁, h₂, h₃, h₄) = (suc n, alternative-at t ready a e n h₂ h₃, h₄)

    from : (p j : ℕ) → Opening (grammar_in t) a i p j → Opened fs k i p j
    from p j (zero, x, y) = clash (cc)
    from p j (suc n, x, y) =
        let z : get_elem? fs n ≡ some p = rw (← e) at x in
        let l = get-below fs n z in
        let d = get-some fs n l in
        (n, omega arith, l, cc, y)

-- ---- the start symbol is a nonterminal
pub start-known : (t : List ℕ) → Ready t → 0 < nonterminals_in t
unfolding compile
start-known t h =
    omega (arith, length-starts-in t, ap (λ (g : Grammar). length g.starts) h.says, length-starts_all 0 h.rules.productions, h.limited.some)
