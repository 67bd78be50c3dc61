-- `words::standing::stands` meets its contract: the length is asked first, then what the cache was begun for.
use mathlib.Core.Bool.{not}
use mathlib.Core.Path.{ap}
use native.Mathlib.Omega.{arith}
use Rattle.words.proofs.StandingLaws.{short-is, other, own}
use Rattle.words.proofs.standing.stands.Goals as goal

pub returns-then-cache-lt-MIN_WORDS : goal.returns-then-cache-lt-MIN_WORDS
returns-then-cache-lt-MIN_WORDS c = short-is _ _ (omega arith)

pub returns-then-not-is_begun : goal.returns-then-not-is_begun
returns-then-not-is_begun c = other _ _ (omega arith) c.is_begun.ensures (ap not c.if-not-is_begun.true)

pub returns : goal.returns
returns c = own _ _ (omega arith) c.is_begun.ensures (ap not c.if-not-is_begun.false)
