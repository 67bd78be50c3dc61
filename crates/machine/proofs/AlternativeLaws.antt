-- Alternatives of a nonterminal in the tables, and as numbers: what is found is one of them.
use mathlib.Core.Path.{◌≡◌, refl, sym, ap, ◌∙◌}
use mathlib.Core.Bool.{Bool}
use mathlib.Core.Option.{Option, none, some}
use mathlib.Core.List.{List}
use Prim.Native.Nat.{ℕ, zero, suc, ◌+◌, ◌-◌, ◌≤◌, ◌<◌}
use native.Mathlib.Numerals.{add-one}
use native.Mathlib.Omega.{arith}
use lib.Dec.{T}
use lib.ListN.{length, get_or}
use lib.Seq.{length-slice}
use Rattle.base.specs.Search.{lowest_from, LowestIs, this, nothing}
use Rattle.base.proofs.Booleans.{clash}
use Rattle.base.proofs.Lowest as search
use Rattle.base.proofs.Lists.{get-below}
use Rattle.grammar.specs.Grammar.{alternatives, first}
use Rattle.grammar.specs.inside.Tables.{corners_at, grammar_in, nonterminals_in, rule_at}
use Rattle.grammar.proofs.GrammarLaws.{first_below}
use Rattle.grammar.proofs.WordLaws.{length-starts-in}
use Rattle.derivation.specs.Runs.{marked}
use Rattle.derivation.specs.Machine.{lowest}
use Rattle.derivation.specs.Runs.{Serves}
use Rattle.derivation.specs.inside.Ready.{Ready}
use Rattle.derivation.proofs.LowestLaws.{lowest-serves}
use Rattle.derivation.proofs.FirstLaws.{rule-within, rules-are, first-at}
use Rattle.machine.specs.inside.Choice.{ends_in, or_zero, lowest_in}
use Rattle.machine.specs.inside.Space.{Named}

-- ---- alternatives in the tables
module _ (t : List ℕ) (h : Ready t) (a b : ℕ) (named : Named t a b) where
  pub named-below : a < nonterminals_in t
  named-below = omega (arith, first_below (grammar_in t) a b named.1, length-starts-in t)

  pub named_some : 1 ≤ b
  named_some = go b named.1
    where
      go : (b : ℕ) → first (grammar_in t) a b ≡ some named.0 → 1 ≤ b
      go zero e = clash (cc)
      go (suc b) e = omega arith

  pub named-within : rule_at t a + b ≤ rule_at t (suc a)
  named-within = go b named.1
    where
      n : length (alternatives (grammar_in t) a) ≡ rule_at t (suc a) - rule_at t a
      n = rw add-one at (ap length (rules-are t h a named-below refl refl)
          ∙ length-slice (rule_at t a) (rule_at t (a + 1)) t (rule-within t h a named-below refl refl))

      go : (b : ℕ) → first (grammar_in t) a b ≡ some named.0 → rule_at t a + b ≤ rule_at t (suc a)
      go zero e = clash (cc)
      go (suc b) e = let l = get-below (alternatives (grammar_in t) a) b e in omega (arith, n)

  pub named_in : rule_at t (suc a) ≤ corners_at
  named_in = h.fits.within a named-below

  pub first-is : {s r : ℕ} → s ≡ rule_at t a → r ≡ get_or t (s + b - 1) 0 → first (grammar_in t) a b ≡ some r
  first-is {s} {r} e d =
      let l = named-within in
      let m = named_some in
      let z : suc (s + b - 1 - s) ≡ b = omega arith in
      let q : rule_at t (a + 1) ≡ rule_at t (a + 1) = refl in
      let k = first-at t h a named-below e q (s + b - 1) (omega arith) (omega (arith, ap (rule_at t) (add-one a))) d in
      ap (λ (b : ℕ). first (grammar_in t) a b) (sym z) ∙ k

  -- an alternative fits a row entry
  pub named_small : b < 65536
  named_small = omega (arith, named-within, named_in)

-- ---- what is found is an alternative
pub lowest-named : (t ws : List ℕ) (a i : ℕ) (s : List ℕ) {r : ℕ} → r ≡ lowest_in t ws a i s → (r ≡ 0 → ⊥) → Named t a r
unfolding lowest_in ends_in
lowest-named t ws a i s {r} e n =
    go (lowest_from test 0 k) (search.lowest-is (λ b. T (test b) × (b < k)) test k (λ b l x. (x, l)) (λ b x. x)) e
  where
    test : ℕ → Bool
    test b = ends_in (grammar_in t).size ws i s (first (grammar_in t) a b)

    k : ℕ
    k = suc (length (alternatives (grammar_in t) a))

    some_first : (o : Option ℕ) → T (ends_in (grammar_in t).size ws i s o) → (f : ℕ) × (o ≡ some f)
    some_first none x = absurd x
    some_first (some f) x = (f, refl)

    go : (o : Option ℕ) → LowestIs (λ b. T (test b) × (b < k)) o → r ≡ or_zero o → Named t a r
    go o (this b x y) e = rw e (some_first (first (grammar_in t) a b) x.0)
    go o (nothing x) e = absurd (n e)

-- ---- an alternative as a number
pub some_of : {r : ℕ} (o : Option ℕ) → r ≡ or_zero o → (r ≡ 0 → ⊥) → o ≡ some r
some_of none e n = absurd (n e)
some_of (some b) e n = ap some (sym e)

module _ (t w S : List ℕ) (a i : ℕ) {r : ℕ} (e : r ≡ or_zero (lowest (grammar_in t) (marked w) S a i)) where
  abbrev Asked : Option ℕ → Type 0
  Asked o = LowestIs (Serves (grammar_in t) (marked w) S a i) o

  -- the plain chooser never names alternative 0
  pub none_of : r ≡ 0 → lowest (grammar_in t) (marked w) S a i ≡ none
  none_of z = go (lowest (grammar_in t) (marked w) S a i) refl (lowest-serves (grammar_in t) (marked w) S a i)
    where
      go : (o : Option ℕ) → lowest (grammar_in t) (marked w) S a i ≡ o → Asked o → lowest (grammar_in t) (marked w) S a i ≡ none
      go o q (nothing x) = q
      go o q (this zero x y) = let f = x.1 in clash (cc)
      go o q (this (suc b) x y) = let u : r ≡ suc b = e ∙ ap or_zero q in absurd (omega arith)

  pub named-of : (r ≡ 0 → ⊥) → Named t a r
  named-of n = go (lowest (grammar_in t) (marked w) S a i) refl (lowest-serves (grammar_in t) (marked w) S a i)
    where
      go : (o : Option ℕ) → lowest (grammar_in t) (marked w) S a i ≡ o → Asked o → Named t a r
      go o q (nothing x) = absurd (n (e ∙ ap or_zero q))
      go o q (this b x y) = let u : r ≡ b = e ∙ ap or_zero q in rw u (x.0, x.1)
