-- `cache::recording::store` meets its contract: each turn stores the next word, and the words from k on are still to store.
use lib.ListN.{length}
use mathlib.Core.Path.{◌≡◌}
use Rattle.cache.proofs.StateSteps.{Stored}
use Rattle.cache.proofs.recording.store.Given as goal

abbrev pub invariant-loop-k : goal.invariant-loop-k
invariant-loop-k l = Stored l.initial.cache l.cache l.at l.words l.k × (length l.cache ≡ length l.initial.cache)
