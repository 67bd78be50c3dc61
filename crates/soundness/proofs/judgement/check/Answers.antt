-- `soundness::judgement::check` meets its contract: compiling answers the verdict itself.
use mathlib.Core.Path.{ap}
use Rattle.soundness.specs.Check.{verdict_number, verdict_place}
use Rattle.soundness.proofs.judgement.check.Goals as goal

pub returns : goal.returns
returns c = let told = c.compile.ensures.verdict in (ap verdict_number told, ap verdict_place told)
