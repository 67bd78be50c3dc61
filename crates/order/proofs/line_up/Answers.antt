-- The goals of `order::line_up` that are not found.
use mathlib.Core.Path.{refl}
use native.Mathlib.Omega.{arith}
use Rattle.order.proofs.PlacingLaws.{placing-none, placing-all}
use Rattle.order.proofs.line_up.Goals as goal

pub loop-placed-init : goal.loop-placed-init
loop-placed-init c = (refl, placing-none _ _ c.requires.1)

pub sweep-placed-requires : goal.sweep-placed-requires
sweep-placed-requires c = record { ready = c.requires.0; placing = c.loop-placed.invariant.1; left = omega (arith, c.nonterminals-n.ensures) }

pub loop-placed-smaller : goal.loop-placed-smaller
loop-placed-smaller c = omega (arith, c.sweep-placed.ensures.1)

pub loop-placed-preserved : goal.loop-placed-preserved
loop-placed-preserved c = (omega arith, c.sweep-placed.ensures.0)

pub returns : goal.returns
returns c = placing-all _ _ _ _ c.requires.0 c.loop-placed.invariant.1 (omega (arith, c.nonterminals-n.ensures))
