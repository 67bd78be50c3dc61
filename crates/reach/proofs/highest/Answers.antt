-- The goals of `reach::highest` that are not found.
use native.Mathlib.Omega.{arith}
use mathlib.Core.Path.{sym, ◌∙◌}
use Rattle.positions.specs.inside.Positions.{member}
use Rattle.reach.proofs.LastLaws.{highest-none, highest-hit, highest-miss}
use Rattle.reach.proofs.highest.Goals as goal

pub loop-k-init : goal.loop-k-init
loop-k-init c = λ j a b. absurd (omega arith)

pub returns-then-has : goal.returns-then-has
returns-then-has c =
    highest-hit (member c.args.s.words) _ _ (omega arith) (λ j a b. c.loop-k.invariant j (omega arith) b) (sym c.has.ensures ∙ c.if-has.true)

pub loop-k-preserved : goal.loop-k-preserved
loop-k-preserved c = highest-miss (member c.args.s.words) _ _ (omega arith) c.loop-k.invariant (sym c.has.ensures ∙ c.if-has.false)

pub returns : goal.returns
returns c = highest-none (member c.args.s.words) _ (λ j a b. c.loop-k.invariant j (omega arith) b)
