-- The loop over the alternatives of a nonterminal, the first one first: a search for the lowest whose first place passes a test.
use mathlib.Core.Path.{◌≡◌, refl, sym, ap, ◌∙◌}
use mathlib.Core.Bool.{Bool, true, false}
use mathlib.Core.Option.{Option, none, some}
use mathlib.Core.List.{List}
use Prim.Native.Nat.{ℕ, suc, ◌+◌, ◌-◌, ◌≤◌, ◌<◌}
use native.Mathlib.Omega.{arith}
use lib.ListN.{length}
use Rattle.base.specs.Search.{lowest_from}
use Rattle.base.proofs.Lowest.{lowest-none, lowest-hit, lowest-miss}
use Rattle.grammar.specs.Grammar.{alternatives, first}
use Rattle.grammar.specs.inside.Tables.{grammar_in}
use Rattle.machine.specs.inside.Choice.{or_zero}

module _ (t : List ℕ) (a : ℕ) (P : Option ℕ → Bool) where
  abbrev test : ℕ → Bool
  test b = P (first (grammar_in t) a b)

  abbrev all : ℕ
  all = length (alternatives (grammar_in t) a)

  -- the lowest that passes
  abbrev sought : Option ℕ
  sought = lowest_from test 0 (suc all)

  -- k were looked at, and the search goes on behind them
  pub Seeking : ℕ → Type 0
  Seeking k = lowest_from test (suc k) (all - k) ≡ sought

  -- alternative 0 is none, and passes no test
  pub seeking-begins : P none ≡ false → Seeking 0
  unfolding Seeking
  seeking-begins v =
      let y : all - 0 ≡ suc all - 1 = omega arith in
      ap (lowest_from test 1) y ∙ lowest-miss test 0 (suc all) refl (omega arith) v

  module _ (k : ℕ) {f : ℕ} {b : Bool} (x : Seeking k) (l : k < all) (d : first (grammar_in t) a (suc k) ≡ some f) (e : b ≡ P (some f)) where
    tested : b ≡ test (suc k)
    tested = e ∙ ap P (sym d)

    pub seeking-found : b ≡ true → suc k ≡ or_zero sought
    unfolding Seeking
    seeking-found y = ap or_zero (lowest-hit test (suc k) (all - k) x (omega arith) (sym tested ∙ y))

    pub seeking-on : b ≡ false → Seeking (suc k)
    unfolding Seeking
    seeking-on y =
        let z : suc k + 1 ≡ suc (suc k) = omega arith in
        let n : all - k - 1 ≡ all - suc k = omega arith in
        rw (z, n) at (lowest-miss test (suc k) (all - k) x (omega arith) (sym tested ∙ y))

  pub seeking-ends : (k : ℕ) → Seeking k → all ≤ k → 0 ≡ or_zero sought
  unfolding Seeking
  seeking-ends k x l = ap or_zero (lowest-none test (suc k) (all - k) x (omega arith))
