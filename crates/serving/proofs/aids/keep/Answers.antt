-- `serving::aids::keep` meets its contract: both words are written.
use mathlib.Core.Path.{◌∙◌}
use native.Mathlib.Numerals.{add-one}
use Rattle.serving.proofs.AidLaws.{tally-put}
use Rattle.serving.proofs.aids.keep.Goals as goal

pub returns : goal.returns
returns c = tally-put c.args.tally.now c.requires.0 (c.word.ensures ∙ add-one _) (c.word-2.ensures ∙ c.min.ensures)
