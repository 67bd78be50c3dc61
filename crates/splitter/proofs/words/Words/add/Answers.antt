-- `splitter::words::Words::add` meets its contract: a word more comes first in its bucket's chain (`added`).
use mathlib.Core.Path.{refl}
use native.Mathlib.Numerals.{add-one}
use native.Mathlib.Omega.{arith}
use Rattle.splitter.proofs.IndexLaws.{run-bucket-lt, run_inside, added}
use Rattle.splitter.proofs.words.Words.add.Goals as goal

pub overflow_add-bucket : goal.overflow_add-bucket
overflow_add-bucket c = omega (arith, run-bucket-lt _ _ _ c.requires.1 c.requires.0.begins)

pub bounds-self-bucket : goal.bounds-self-bucket
bounds-self-bucket c = omega (arith, run-bucket-lt _ _ _ c.requires.1 c.requires.0.begins)

pub overflow_add-self : goal.overflow_add-self
overflow_add-self c = omega (arith, run_inside _ _ _ c.requires.1 c.requires.0.begins, c.requires.0.begins)

pub bounds-self-bucket-2 : goal.bounds-self-bucket-2
bounds-self-bucket-2 c = omega (arith, run-bucket-lt _ _ _ c.requires.1 c.requires.0.begins)

pub invariant_of-self : goal.invariant_of-self
invariant_of-self c =
    let a = added _ _ _ _ _ _ c.args.self.now.indexed c.requires.0 c.requires.1 c.low.ensures in
    record { indexed = rw (← add-one c.args.self.now.count) at a.indexed }

pub returns : goal.returns
returns c = (refl, refl, added _ _ _ _ _ _ c.args.self.now.indexed c.requires.0 c.requires.1 c.low.ensures)
