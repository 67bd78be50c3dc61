-- `allstar_c::allstar_check` meets its contract: the number and the place stored are those of the verdict that `check` answers.
use mathlib.Core.Path.{◌∙◌}
use Rattle.allstar_c.proofs.allstar_check.Goals as goal

pub returns : goal.returns
returns c = (c.number.ensures ∙ c.check-verdict.ensures.0, c.place.ensures ∙ c.check-verdict.ensures.1)
