-- What is kept of the open line fits into the array.
use Rattle.std.proofs.Common.{◌≤◌}
use Rattle.lines.specs.Line.{max_kept_bytes}
use Rattle.notes.proofs.answer_all.Given as goal

abbrev pub invariant-loop : goal.invariant-loop
invariant-loop g l = l.kept ≤ max_kept_bytes
