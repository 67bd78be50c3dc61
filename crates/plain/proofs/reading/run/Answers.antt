-- `plain::reading::run` meets its contract: the loop stops as the whole reading under the plain chooser ends.
use Rattle.plain.proofs.RunLaws.{run-may, run-serves, plain-ran}
use Rattle.plain.proofs.reading.run.Goals as goal

pub run-requires : goal.run-requires
run-requires c = (run-may c.requires, c.requires.begun, run-serves c.requires)

pub returns : goal.returns
returns c = plain-ran c.run.ensures.1
