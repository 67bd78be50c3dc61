-- `serving::judging::ask_start` meets its contract: what is known of the start symbol was asked before; else it is worked out now.
use mathlib.Core.Path.{refl}
use native.Mathlib.Omega.{arith}
use Rattle.serving.proofs.JudgeLaws.{start-asks, started-now, started-before, none-tells, one-tells, some-tells}
use Rattle.serving.proofs.judging.ask_start.Goals as goal

pub known-requires : goal.known-requires
known-requires c = start-asks c.requires.searching c.requires.sized

pub settle-requires : goal.settle-requires
settle-requires c = start-asks c.requires.searching c.requires.sized

pub returns-in-Ok : goal.returns-in-Ok
returns-in-Ok c = started-now c.requires c.meter-meter.ensures c.in-Ok.ensures (omega arith) refl (λ _. c.in-Ok.ensures.done) c.keep.ensures

pub returns-in-Err : goal.returns-in-Err
returns-in-Err c = started-now c.requires c.meter-meter.ensures c.settle.ensures (omega arith) refl (λ l. absurd (omega arith)) c.keep-in-Err.ensures

pub returns-in-Nowhere : goal.returns-in-Nowhere
returns-in-Nowhere c = started-before c.requires c.known.ensures (none-tells c.in-Nowhere.is)

pub returns-in-Only : goal.returns-in-Only
returns-in-Only c = started-before c.requires c.known.ensures (one-tells c.in-Only.is)

pub returns-in-Several : goal.returns-in-Several
returns-in-Several c = started-before c.requires c.known.ensures (some-tells c.in-Several.is)
