-- `learning::learn::pass` meets its contract: a stack that is too deep is no member's, any other has its place moved on.
use native.Mathlib.Omega.{arith}
use Rattle.configurations.proofs.GrowLaws.{add-deep}
use Rattle.configurations.proofs.GrowSteps.{grow-packs}
use Rattle.learning.proofs.learn.pass.Goals as goal

pub returns-then-entries-gt-ENTRIES : goal.returns-then-entries-gt-ENTRIES
returns-then-entries-gt-ENTRIES c = add-deep _ _ c.requires.0 _ (omega (arith, c.entries.ensures, c.if-entries-gt-ENTRIES.true))

pub onward-requires : goal.onward-requires
onward-requires c = (c.requires.1, omega (arith, c.entries.ensures, c.if-entries-gt-ENTRIES.false))

pub add-requires : goal.add-requires
add-requires c = (c.requires.0, c.onward.ensures.exact)

pub returns : goal.returns
returns c = grow-packs _ c.onward.ensures c.add.ensures
