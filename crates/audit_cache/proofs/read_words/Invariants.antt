-- No more words are held than there is room for, and each turn of the loop adds one at least.
use Rattle.std.proofs.Common.{◌-◌, ◌≤◌}
use Rattle.audit_cache.proofs.read_words.Given as goal

abbrev pub invariant-loop-held : goal.invariant-loop-held
invariant-loop-held g l = l.held ≤ l.room

abbrev pub decreases-loop-held : goal.decreases-loop-held
decreases-loop-held g l = l.room - l.held
