-- The goals of `splitter::runs::word_run` that are not found.
use native.Mathlib.Nat.{mod-lt}
use mathlib.Core.Path.{refl}
use native.Mathlib.Omega.{arith}
use Rattle.std.proofs.lemmas.List.{take_rest}
use Rattle.splitter.proofs.RunLaws.{run-begins, run_end, run-stop, run_on}
use Rattle.splitter.proofs.runs.word_run.Goals as goal

pub loop-b-init : goal.loop-b-init
loop-b-init c = (rw (take_rest c.args.s.now c.args.from) (run-begins c.args.s.now c.args.from), omega arith, omega arith)

pub returns-then-class-lt-DIGIT-clause-run : goal.returns-then-class-lt-DIGIT-clause-run
returns-then-class-lt-DIGIT-clause-run c = run-stop _ _ _ _ c.loop-b.invariant.0 c.loop-b-test.true refl c.class.ensures c.if-class-lt-DIGIT.true

pub loop-b-preserved : goal.loop-b-preserved
loop-b-preserved c = (
  run_on _ _ _ _ c.loop-b.invariant.0 c.loop-b-test.true refl c.class.ensures c.if-class-lt-DIGIT.false c.from.ensures refl,
  mod-lt _ (omega arith),
  omega arith,
)

pub returns-after-loop-b-clause-run : goal.returns-after-loop-b-clause-run
returns-after-loop-b-clause-run c = run_end _ _ _ _ c.loop-b.invariant.0 c.loop-b-test.false
