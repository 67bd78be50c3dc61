-- `configurations::words::member` meets its contract: its words are read from the row.
use mathlib.Core.Path.{refl}
use Rattle.configurations.proofs.WordLaws.{packed-read}
use Rattle.configurations.proofs.words.member.Goals as goal

pub returns : goal.returns
returns c = packed-read _ _ refl c.joined.ensures
