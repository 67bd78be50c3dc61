-- `splitter::classes::mark_kind` meets its contract: its tests are those of `mark_kind`.
use native.Mathlib.Omega.{arith}
use borrow.Author.Tests.{lt-ltb, le-ltb}
use Rattle.splitter.specs.Classes.{mark_kind}
use Rattle.splitter.proofs.classes.mark_kind.Goals as goal

pub returns-then-b-gt122 : goal.returns-then-b-gt122
unfolding mark_kind
returns-then-b-gt122 c = rw (lt-ltb 122 c.args.b c.if-b-gt122.true)

pub returns-then-b-gt90 : goal.returns-then-b-gt90
unfolding mark_kind
returns-then-b-gt90 c = rw (le-ltb 122 c.args.b c.if-b-gt122.false, lt-ltb 90 c.args.b c.if-b-gt90.true)

pub returns-then-b-gt57 : goal.returns-then-b-gt57
unfolding mark_kind
returns-then-b-gt57 c =
    let b = c.args.b in
    rw (le-ltb 122 b (omega arith), le-ltb 90 b (omega arith), lt-ltb 57 b (omega arith))

pub returns-then-b-gt32 : goal.returns-then-b-gt32
unfolding mark_kind
returns-then-b-gt32 c =
    let b = c.args.b in
    rw (le-ltb 122 b (omega arith), le-ltb 90 b (omega arith), le-ltb 57 b (omega arith), lt-ltb 32 b (omega arith))

pub returns : goal.returns
unfolding mark_kind
returns c =
    let b = c.args.b in
    rw (le-ltb 122 b (omega arith), le-ltb 90 b (omega arith), le-ltb 57 b (omega arith), le-ltb 32 b (omega arith))
