-- `search::words::Size::set_of` meets its contract: the words of the sets are in the slice.
use native.Mathlib.Omega.{arith}
use Rattle.search.proofs.WordLaws.{set-in}
use Rattle.search.proofs.words.Size.set_of.Goals as goal

pub read-requires : goal.read-requires
read-requires c = omega (arith, c.set_at.ensures, set-in c.requires.pair, c.requires.room)

pub returns : goal.returns
returns c = cc
