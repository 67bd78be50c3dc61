-- The goals of `soundness::judgement::lowest_missing` that are not found.
use mathlib.Core.Path.{refl, ap, sym, ◌∙◌}
use mathlib.Core.Bool.{not}
use native.Mathlib.Omega.{arith}
use native.Mathlib.Numerals.{unary_clauses}
use Rattle.base.specs.Bits.{test_bit}
use Rattle.base.proofs.Lowest.{lowest-none, lowest-hit, lowest-next}
use Rattle.number.specs.declared.Refusal.TheVariants.{Unproductive}
use Rattle.soundness.specs.Check.{refuse_at}
use Rattle.soundness.proofs.judgement.lowest_missing.Goals as goal

pub loop-a-init : goal.loop-a-init
loop-a-init c = (omega arith, simp unary_clauses refl)

pub returns-then-not-has : goal.returns-then-not-has
returns-then-not-has c =
    ap (refuse_at Unproductive) (lowest-hit (λ a. not (test_bit c.args.set a)) _ _ c.loop-a.invariant.1 (omega arith)
    (ap not (sym c.has.ensures) ∙ (ap not c.if-not-has.true)))

pub loop-a-preserved : goal.loop-a-preserved
loop-a-preserved c =
    let held = ap not (sym c.has.ensures) ∙ (ap not c.if-not-has.false) in
    (omega arith, lowest-next (λ a. not (test_bit c.args.set a)) _ _ c.loop-a.invariant.1 (omega arith) held)

pub returns : goal.returns
returns c = ap (refuse_at Unproductive) (lowest-none (λ a. not (test_bit c.args.set a)) _ _ c.loop-a.invariant.1 (omega arith))
