-- Corners that tables hold are their own.
use mathlib.Core.Path.{ap, ◌∙◌}
use mathlib.Core.List.{List}
use Prim.Native.Nat.{ℕ, ◌<◌}
use native.Mathlib.Omega.{arith}
use Rattle.base.specs.Bits.{test_bit}
use Rattle.grammar.specs.inside.Tables.{grammar_in, nonterminals_in}
use Rattle.corners.specs.Corners.{Corners, Cornered}
use Rattle.corners.specs.inside.Steps.{Stored}

pub stored-corners : (t₀ rows t : List ℕ) → Corners (grammar_in t₀) (nonterminals_in t₀) rows → Stored t₀ rows (nonterminals_in t₀) t
    → Cornered t
unfolding Corners Cornered
stored-corners t₀ rows t h s a c l =
    let m : a < nonterminals_in t₀ = omega (arith, s.kept.number) in
    ap (λ (row : ℕ). test_bit row c) (s.same a m) ∙ (h a c m ∙ rw s.kept.says)
