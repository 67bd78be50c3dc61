-- `closing::worklist::push` meets its contract: a full stack would be too deep, any other has room for one more.
use native.Mathlib.Omega.{arith}
use Rattle.configurations.proofs.GrowLaws.{add-deep}
use Rattle.configurations.proofs.GrowSteps.{grow-packs}
use Rattle.closing.proofs.worklist.push.Goals as goal

pub returns-then-entries-eq-ENTRIES : goal.returns-then-entries-eq-ENTRIES
returns-then-entries-eq-ENTRIES c = add-deep _ _ c.requires.0 _ (omega (arith, c.entries.ensures, c.if-entries-eq-ENTRIES.true))

pub entered-requires : goal.entered-requires
entered-requires c = (c.requires.1, omega (arith, c.requires.1.exact.shallow, c.entries.ensures, c.if-entries-eq-ENTRIES.false))

pub add-requires : goal.add-requires
add-requires c = (c.requires.0, c.entered.ensures.exact)

pub returns : goal.returns
returns c = grow-packs _ c.entered.ensures c.add.ensures
