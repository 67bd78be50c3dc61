-- `quick::running::run` meets its contract: the loop stops as the whole reading under the quick chooser ends, and what it chose by still holds the cache.
use mathlib.Core.Path.{sym}
use Rattle.quick.proofs.RunLaws.{run-may, run-far, quick-ran}
use Rattle.quick.proofs.running.run.Goals as goal

pub run-requires : goal.run-requires
run-requires c = (run-may c.requires.0 c.requires.2, (run-far c.requires.0 c.requires.2, c.requires.1), tt)

pub returns : goal.returns
returns c = let left = c.cache-1.given.1.1 (sym c.run.ensures.0) in rw left (quick-ran c.run.ensures.1)
