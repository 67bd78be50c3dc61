-- `splitter::words::none` meets its contract: no words are indexed.
use mathlib.Core.Path.{refl}
use Rattle.splitter.proofs.IndexLaws.{indexed-none}
use Rattle.splitter.proofs.words.none.Goals as goal

pub invariant_of-result : goal.invariant_of-result
invariant_of-result c = record { indexed = indexed-none _ _ _ refl refl }
